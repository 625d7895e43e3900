-- Fragments that are written one behind another.
use Rattle.std.proofs.Common.{◌≡◌, ℕ, zero, suc, ◌+◌, ◌*◌, List, [], ◌∷◌, ◌++◌, map, sym, ap, ◌∙◌, append_assoc, arith}
use Rattle.std.specs.List.{range_with_len}
use Rattle.std.proofs.lemmas.List.{map-append}
use Rattle.floor_datagram.specs.Written.{fragment_from}

range-more : (a n : ℕ) → range_with_len a (suc n) ≡ range_with_len a n ++ (a + n) ∷ []
range-more a zero = let e : a ≡ a + 0 = omega arith in ap (λ x. x ∷ []) e
range-more a (suc n) =
    let e : a + 1 + n ≡ a + suc n = omega arith in
    ap (λ l. a ∷ l) (range-more (a + 1) n ∙ ap (λ x. range_with_len (a + 1) n ++ x ∷ []) e)

-- one more number
pub counted-more : (n : ℕ) → range_with_len 0 (n + 1) ≡ range_with_len 0 n ++ n ∷ []
counted-more n =
    let one : n + 1 ≡ suc n = omega arith in
    let same : 0 + n ≡ n = omega arith in
    ap (λ k. range_with_len 0 k) one ∙ range-more 0 n ∙ ap (λ x. range_with_len 0 n ++ x ∷ []) same

-- one more fragment
pub fragments-more : (units : ℕ) (m : List ℕ) (n : ℕ) (old now next : List (List ℕ)) (offset : ℕ) → offset ≡ units * n
    → now ≡ old ++ map (λ (k : ℕ). fragment_from units (units * k) m) (range_with_len 0 n)
    → next ≡ now ++ fragment_from units offset m ∷ []
    → next ≡ old ++ map (λ (k : ℕ). fragment_from units (units * k) m) (range_with_len 0 (n + 1))
fragments-more units m n old now next offset at before added =
    added ∙ ap (λ x. now ++ fragment_from units x m ∷ []) at ∙ ap (λ l. l ++ fragment_from units (units * n) m ∷ []) before
    ∙ append_assoc old (map (λ (k : ℕ). fragment_from units (units * k) m) (range_with_len 0 n)) (fragment_from units (units * n) m ∷ [])
    ∙ ap (λ l. old ++ l) (sym (map-append (λ (k : ℕ). fragment_from units (units * k) m) (range_with_len 0 n) (n ∷ [])))
    ∙ ap (λ l. old ++ map (λ (k : ℕ). fragment_from units (units * k) m) l) (sym (counted-more n))
