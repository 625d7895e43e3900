-- The details of an Error are few: each names an unknown type of attribute, and no two the same.
use Rattle.std.proofs.Common.{◌≡◌, ℕ, suc, ◌-◌, ◌*◌, ◌<◌, ◌≤◌, Bool, true, false, List, [], ◌∷◌, length, map, refl, sym, ◌∙◌, subst, eqb, arith}
use Rattle.std.specs.Prelude.{◌||◌, ◌==◌, All}
use Rattle.std.specs.List.{list_any, IsDistinct, AllByRecursion}
use Rattle.std.proofs.lemmas.Bool.{eqb-true}
use Rattle.std.proofs.lemmas.Bool.Decides.{nat_tests}
use Rattle.std.proofs.lemmas.List.{length-map}
use Rattle.std.proofs.lemmas.Map.Steps.{length-le_from_distinct_below}
use Rattle.floor_message.specs.Picked.{IsOnceBy, distinct, mandatory}
use Rattle.floor_message.proofs.Once.{once_by-once}
use Rattle.floor_message.proofs.Picking.{types_unknown}
use Rattle.floor_wire.specs.Spelling.{is_known}
use Rattle.std.proofs.lemmas.List.Elements.{All-from_recursion, recursion_from_All}
use Rattle.floor_wire.specs.Attributes.{Attributes}

or_first : (a b : Bool) → (a || b) ≡ false → a ≡ false
or_first true b h = h
or_first false b h = refl

or_second : (a b : Bool) → (a || b) ≡ false → b ≡ false
or_second true b h = cc
or_second false b h = h

turned : (x y : ℕ) → (y == x) ≡ false → eqb x y ≡ false
turned x y h = grind (arith, nat_tests)

apart : (x : ℕ) (xs : List ℕ) → list_any (λ y. y == x) xs ≡ false → AllByRecursion (λ y. eqb x y ≡ false) xs
apart x [] h = tt
apart x (y ∷ xs) h = (turned x y (or_first (y == x) _ h), apart x xs (or_second (y == x) _ h))

-- what stands once each is distinct
once_distinct : (xs : List ℕ) → IsOnceBy (λ n. n) xs → IsDistinct eqb xs
unfolding IsDistinct
once_distinct [] h = tt
once_distinct (x ∷ xs) h = (apart x xs h.0, once_distinct xs h.1)

-- whoever stands in the list is below n, if all are
below : (xs : List ℕ) (n q : ℕ) → All (λ x. x < n) xs → list_any (eqb q) xs ≡ true → q < n
below [] n q h found = absurd (let no : ⊥ = cc in no)
below (x ∷ xs) n q h found = here (eqb q x) refl (below xs n q (λ k d l. h (suc k) d (omega arith))) found
  where
    here : (b : Bool) → b ≡ eqb q x → (list_any (eqb q) xs ≡ true → q < n) → (b || list_any (eqb q) xs) ≡ true → q < n
    here true e rest f = let P : ℕ → Type 0 = λ k. k < n in subst P (sym (eqb-true q x (sym e))) (h 0 x (omega arith))
    here false e rest f = rest f

-- unknown types are told apart by how far they are above the known ones
still_apart : (x y : ℕ) → is_known x ≡ false → is_known y ≡ false → (y - 18 == x - 18) ≡ (y == x)
still_apart x y h k = grind (arith, nat_tests)

none_moved : (x : ℕ) (ys : List ℕ) → is_known x ≡ false → AllByRecursion (λ t. is_known t ≡ false) ys
    → list_any (λ y. y == x - 18) (map (λ t. t - 18) ys) ≡ list_any (λ y. y == x) ys
none_moved x [] h k = refl
none_moved x (y ∷ ys) h k = rw (still_apart x y h k.0, none_moved x ys h k.1) refl

once_moved : (xs : List ℕ) → AllByRecursion (λ t. is_known t ≡ false) xs → IsOnceBy (λ n. n) xs → IsOnceBy (λ n. n) (map (λ t. t - 18) xs)
once_moved [] k h = tt
once_moved (x ∷ xs) k h = (none_moved x xs k.0 k.1 ∙ h.0, once_moved xs k.1 h.1)

below_moved : (xs : List ℕ) → AllByRecursion (λ t. t < 128) xs → AllByRecursion (λ t. t < 110) (map (λ t. t - 18) xs)
below_moved [] h = tt
below_moved (x ∷ xs) h = (omega (arith, h.0), below_moved xs h.1)

-- unknown types below 128, each once, are at most 110: 0, and 19 to 127
few_unknown : (xs : List ℕ) → AllByRecursion (λ t. is_known t ≡ false) xs → AllByRecursion (λ t. t < 128) xs → IsOnceBy (λ n. n) xs → length xs ≤ 110
few_unknown xs unknown short once =
    let moved = map (λ (t : ℕ). t - 18) xs in
    let all : All (λ x. x < 110) moved = All-from_recursion (λ x. x < 110) moved (below_moved xs short) in
    let few : length moved ≤ 110 =
    length-le_from_distinct_below moved 110 (once_distinct moved (once_moved xs unknown once)) (λ q found. below moved 110 q all found) in
    omega (arith, few, length-map xs (λ (t : ℕ). t - 18))

-- the details of an Error are few
pub details_short : (a : Attributes) → All (λ t. t < 128) (distinct (mandatory a)) → length (map (λ k. 2 * k) (distinct (mandatory a))) ≤ 110
details_short a h =
    let types = distinct (mandatory a) in
    let few : length types ≤ 110 =
    few_unknown types (recursion_from_All (λ t. is_known t ≡ false) types (types_unknown a)) (recursion_from_All (λ t. t < 128) types h)
    (once_by-once (λ n. n) (mandatory a)) in
    omega (arith, few, length-map types (λ (k : ℕ). 2 * k))
