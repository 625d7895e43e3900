-- The numbers within a conference, as its places have them.
use Rattle.std.proofs.Common.{◌≡◌, ℕ, zero, suc, ◌≤◌, Bool, true, false, List, [], ◌∷◌, ◌++◌, refl, ◌∙◌, ap, sym, subst, arith, Some}
use Rattle.std.specs.Prelude.{Option, ◌==◌, if◌then◌else◌, slice_get}
use Rattle.std.proofs.lemmas.Bool.{eqb-false}
use Rattle.std.proofs.lemmas.Option.{none-some}
use Rattle.floor_hub.specs.Kept.{IsKept, arrivals_in, first_numbers, numbers_of}
use Rattle.floor_hub.specs.World.{Part, Place, World}

abbrev Each : (ℕ → Type 0) → List ℕ → Type 0
Each P [] = Unit {0}
Each P (x ∷ xs) = P x × Each P xs

each_append : (P : ℕ → Type 0) (xs ys : List ℕ) → Each P xs → Each P ys → Each P (xs ++ ys)
each_append P [] ys a b = b
each_append P (x ∷ xs) ys a b = (a.0, each_append P xs ys a.1 b)

-- a number of a part
abbrev pub IsNumber : ℕ → ℕ → Type 0
IsNumber k n = (1 ≤ n) × (n ≤ k)

each_first : (m k : ℕ) → m ≤ k → Each (IsNumber k) (first_numbers m)
each_first zero k h = tt
each_first (suc m) k h = each_append (IsNumber k) (first_numbers m) (suc m ∷ []) (each_first m k (omega arith)) ((omega arith, h), tt)

-- what holds of each number of a conference holds of that of a place
each_place : (P : ℕ → Type 0) (c : ℕ) (ps : List Place) (j : ℕ) (q : Place) → Each P (numbers_of c ps) → slice_get ps j ≡ Some q → q.conference ≡ c → P q.n
each_place P c [] j q a is same = absurd (none-some q is)
each_place P c (p ∷ ps) zero q a is same = by (p.conference == c) refl a
  where
    some : (x y : Place) → ◌≡◌ {A = Option Place} (Some x) (Some y) → x ≡ y
    some x y e = cc

    by : (b : Bool) → (p.conference == c) ≡ b → Each P (if b then p.n ∷ numbers_of c ps else numbers_of c ps) → P q.n
    by true e a = subst (λ (x : Place). P x.n) (some p q is) a.0
    by false e a = absurd (eqb-false p.conference c e (ap (λ (x : Place). x.conference) (some p q is) ∙ same))
each_place P c (p ∷ ps) (suc j) q a is same = by (p.conference == c) a (λ b. each_place P c ps j q b is same)
  where
    by : (b : Bool) → Each P (if b then p.n ∷ numbers_of c ps else numbers_of c ps) → (Each P (numbers_of c ps) → P q.n) → P q.n
    by true a rest = rest a.1
    by false a rest = rest a

-- the number of a place is one of the arrivals of its conference
pub number_within : (w : World) → IsKept w → (c : ℕ) (z : Option Part) → w.parts c ≡ z → (j : ℕ) (q : Place) → slice_get w.places j ≡ Some q → q.conference ≡ c → IsNumber (arrivals_in z) q.n
number_within w kept c z was j q is same =
    each_place (IsNumber (arrivals_in z)) c w.places j q
    (subst (Each (IsNumber (arrivals_in z))) (sym (kept.places c ∙ ap (λ (y : Option Part). first_numbers (arrivals_in y)) was)) (each_first (arrivals_in z) (arrivals_in z) (omega arith))) is same
