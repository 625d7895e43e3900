-- Bytes that agree, as far as they go.
use Rattle.std.proofs.Common.{◌≡◌, ◌==◌, ◌&&◌, ℕ, Bool, true, false, List, [], ◌∷◌, refl, sym, ap, ◌∙◌, eqb-true}
use Rattle.std.specs.List.{starts_with}
use Rattle.std.proofs.lemmas.Bool.{ne_eqb, eqb-false, eq-eqb}
use Rattle.floor_proxy.specs.Header.{agrees}

same-way : (a b : ℕ) → (a == b) ≡ (b == a)
same-way a b = by (a == b) refl where
  by : (t : Bool) → (a == b) ≡ t → t ≡ (b == a)
  by true e = sym (eq-eqb b a (sym (eqb-true a b e)))
  by false e = sym (ne_eqb b a (λ same. eqb-false a b e (sym same)))

-- what doesn't begin with the wanted bytes agrees where they begin with it
pub agrees-front : (wanted bytes : List ℕ) → starts_with (λ a b. a == b) bytes wanted ≡ false → starts_with (λ a b. a == b) wanted bytes ≡ agrees wanted bytes
agrees-front [] bytes e = cc
agrees-front (w ∷ wanted) [] e = refl
agrees-front (w ∷ wanted) (b ∷ bytes) e = ap (λ (t : Bool). t && starts_with (λ x y. x == y) wanted bytes) (same-way b w) ∙ by (w == b) e (agrees-front wanted bytes) where
  by : (t : Bool) → (t && starts_with (λ x y. x == y) bytes wanted) ≡ false
      → (starts_with (λ x y. x == y) bytes wanted ≡ false → starts_with (λ x y. x == y) wanted bytes ≡ agrees wanted bytes)
      → (t && starts_with (λ x y. x == y) wanted bytes) ≡ (t && agrees wanted bytes)
  by true e others = others e
  by false e others = refl
