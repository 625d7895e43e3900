-- Ranges that are joined from the front on.
use Rattle.std.proofs.Common.{◌≡◌, ℕ, suc, ◌+◌, ◌<◌, ◌==◌, length, get_or, drop-cons, arith, true, false, List, ◌∷◌, ◌++◌, drop, Option, Some, None, option_map, refl, sym, ap, ◌∙◌, append_assoc, if◌then◌else◌}
use Rattle.floor_datagram.specs.Fragments.{joined}
use Rattle.floor_datagram.specs.declared.fragments.Range.{Range}

map-map : (p q : List ℕ) (o : Option (List ℕ)) → option_map (λ rest. p ++ rest) (option_map (λ rest. q ++ rest) o) ≡ option_map (λ rest. (p ++ q) ++ rest) o
map-map p q None = refl
map-map p q (Some x) = ap (λ l. Some l) (sym (append_assoc p q x))

-- the range at the front of those that are left
pub front-range : (rs : List Range) (i : ℕ) (r : Range) → i < length rs → r ≡ get_or rs i r → drop i rs ≡ r ∷ drop (i + 1) rs
front-range rs i r h e =
    let next : suc i ≡ i + 1 = omega arith in
    drop-cons rs i r h ∙ ap (λ x. x ∷ drop (suc i) rs) (sym e) ∙ ap (λ k. r ∷ drop k rs) next

-- a body is written behind what is written
pub written-more : (head p now next body : List ℕ) → now ≡ 0x40 ∷ (head ++ p) → next ≡ now ++ body → next ≡ 0x40 ∷ (head ++ (p ++ body))
written-more head p now next body before added = added ∙ ap (λ l. l ++ body) before ∙ ap (λ l. 0x40 ∷ l) (append_assoc head p body)

-- one more range begins where the one before ends
pub joined-more : (at end next : ℕ) (all : Option (List ℕ)) (p : List ℕ) (rs : List Range) (r : Range) (rest : List Range)
    → all ≡ option_map (λ l. p ++ l) (joined at end rs) → rs ≡ r ∷ rest → (r.offset == at) ≡ true
    → next ≡ r.offset + r.units → all ≡ option_map (λ l. (p ++ r.body) ++ l) (joined next end rest)
joined-more at end next all p rs r rest before front begins ends =
    before ∙ ap (λ l. option_map (λ m. p ++ m) (joined at end l)) front
    ∙ ap (λ b. option_map (λ l. p ++ l) (if b then option_map (λ l. r.body ++ l) (joined (r.offset + r.units) end rest) else None)) begins
    ∙ map-map p r.body (joined (r.offset + r.units) end rest) ∙ ap (λ n. option_map (λ l. (p ++ r.body) ++ l) (joined n end rest)) (sym ends)

-- one begins elsewhere
pub joined-none : (at end : ℕ) (all : Option (List ℕ)) (p : List ℕ) (rs : List Range) (r : Range) (rest : List Range)
    → all ≡ option_map (λ l. p ++ l) (joined at end rs) → rs ≡ r ∷ rest → (r.offset == at) ≡ false → all ≡ None
joined-none at end all p rs r rest before front begins =
    before ∙ ap (λ l. option_map (λ m. p ++ m) (joined at end l)) front
    ∙ ap (λ b. option_map (λ l. p ++ l) (if b then option_map (λ l. r.body ++ l) (joined (r.offset + r.units) end rest) else None)) begins
