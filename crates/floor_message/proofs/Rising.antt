-- Numbers that rise stand once each.
use Rattle.std.proofs.Common.{◌≡◌, ℕ, ◌<◌, ◌≤◌, Bool, true, false, List, [], ◌∷◌, refl, arith}
use Rattle.std.specs.Prelude.{◌==◌}
use Rattle.std.specs.List.{list_any}
use Rattle.std.proofs.lemmas.Bool.{eqb-true}
use Rattle.floor_message.specs.Picked.{IsOnceBy}
use Rattle.floor_message.specs.steps.Rising.{RiseFrom, Rise}

none_step : (m x : ℕ) (xs : List ℕ) (b : Bool) → (x == m) ≡ b → m < x → list_any (λ y. y == m) xs ≡ false → list_any (λ y. y == m) (x ∷ xs) ≡ false
none_step m x xs true e above rest =
    let same : x ≡ m = eqb-true x m e in
    absurd (omega arith)
none_step m x xs false e above rest = rw e rest

none_again : (m n : ℕ) (xs : List ℕ) → m ≤ n → RiseFrom n xs → list_any (λ y. y == m) xs ≡ false
none_again m n [] below h = refl
none_again m n (x ∷ xs) below h =
    let above : n < x = h.0 in
    none_step m x xs (x == m) refl (omega arith) (none_again m x xs (omega arith) h.1)

risen_behind : (n : ℕ) (xs : List ℕ) → RiseFrom n xs → IsOnceBy (λ k. k) (n ∷ xs)
risen_behind n [] h = (refl, tt)
risen_behind n (x ∷ xs) h = (none_again n n (x ∷ xs) (omega arith) h, risen_behind x xs h.1)

-- numbers that rise stand once each
pub risen_once : (xs : List ℕ) → Rise xs → IsOnceBy (λ k. k) xs
risen_once [] h = tt
risen_once (n ∷ xs) h = risen_behind n xs h
