-- A number that stands twice, in order and out of it.
use Rattle.std.proofs.Common.{◌≡◌, ◌≢◌, ◌∙◌, sym, refl, ℕ, suc, ◌+◌, ◌<◌, ◌==◌, Bool, true, false, List, [], ◌∷◌, length, get_or, arith, ⊎_elim}
use Rattle.std.specs.List.{list_any, AllByRecursion, IsDistinct}
use Rattle.std.specs.List.Sorted.{IsPermutation, IsSorted, IsStrictlyIncreasing}
use Rattle.std.specs.Ordering.{nat_cmp}
use Rattle.std.proofs.lemmas.Bool.{or_parts, or_from, or_cases, eqb-true, eqb-false, ne_eqb, true_from_ne_false, false≢true, cases_Bool}
use Rattle.std.proofs.lemmas.Map.Keys.{IsDistinct-head, IsDistinct-tail, IsDistinct-cons, apart_from_distinct, IsDistinct-from_apart, IsDistinct-IsPermutation}
use Rattle.std.proofs.lemmas.List.Sorted.{IsNonDecreasingBy-from_sort, IsPermutation-sym}
use Rattle.std.proofs.lemmas.List.Kept.{AllPairs-from_increasing}
use Rattle.floor_config.specs.Doubles.{AllDiffer, StandsTwice, has_double, FindsDoubles}

none_of : (x : ℕ) (xs : List ℕ) → list_any (λ y. x == y) xs ≡ false → AllByRecursion (λ y. (x == y) ≡ false) xs
none_of x [] h = tt
none_of x (y ∷ ys) h = let p = or_parts (x == y) (list_any (λ z. x == z) ys) h in (p.0, none_of x ys p.1)

any_of : (x : ℕ) (xs : List ℕ) → AllByRecursion (λ y. (x == y) ≡ false) xs → list_any (λ y. x == y) xs ≡ false
any_of x [] h = refl
any_of x (y ∷ ys) h = or_from (x == y) (list_any (λ z. x == z) ys) h.0 (any_of x ys h.1)

-- the place at which a number stands again
place_of : (x : ℕ) (xs : List ℕ) → list_any (λ y. x == y) xs ≡ true → (k : ℕ) × (k < length xs) × (get_or xs k 0 ≡ x)
place_of x [] h = absurd (false≢true h)
place_of x (y ∷ ys) h =
    ⊎_elim (λ (same : (x == y) ≡ true). (0, omega arith, sym (eqb-true x y same)))
    (λ (later : list_any (λ z. x == z) ys ≡ true). let p = place_of x ys later in (suc p.0, omega (arith, p.1), p.2))
    (or_cases (x == y) (list_any (λ z. x == z) ys) h)

distinct : (xs : List ℕ) → has_double xs ≡ false → IsDistinct (λ x y. x == y) xs
distinct [] h = IsDistinct-from_apart (λ x y. x == y) [] (λ i j d lt within. absurd (omega (arith, within)))
distinct (x ∷ xs) h =
    let p = or_parts (list_any (λ y. x == y) xs) (has_double xs) h in
    IsDistinct-cons (λ x y. x == y) x xs (none_of x xs p.0) (distinct xs p.1)

no_double : (xs : List ℕ) → IsDistinct (λ x y. x == y) xs → has_double xs ≡ false
no_double [] h = refl
no_double (x ∷ xs) h =
    or_from (list_any (λ y. x == y) xs) (has_double xs) (any_of x xs (IsDistinct-head (λ x y. x == y) x xs h)) (no_double xs (IsDistinct-tail (λ x y. x == y) x xs h))

pub AllDiffer_none : (xs : List ℕ) → has_double xs ≡ false → AllDiffer xs
AllDiffer_none xs h i j d lt within = eqb-false (get_or xs i d) (get_or xs j d) (apart_from_distinct (λ x y. x == y) xs i j d (distinct xs h) lt within)

pub none_AllDiffer : (xs : List ℕ) → AllDiffer xs → has_double xs ≡ false
none_AllDiffer xs h = no_double xs (IsDistinct-from_apart (λ x y. x == y) xs (λ i j d lt within. ne_eqb (get_or xs i d) (get_or xs j d) (h i j d lt within)))

pub StandsTwice_found : (xs : List ℕ) → has_double xs ≡ true → StandsTwice xs
StandsTwice_found [] h = absurd (false≢true h)
StandsTwice_found (x ∷ xs) h =
    ⊎_elim
    (λ (again : list_any (λ y. x == y) xs ≡ true).
    let p = place_of x xs again in
    record { first = 0; second = suc p.0; apart = omega arith; within = omega (arith, p.1); same = sym p.2 })
    (λ (later : has_double xs ≡ true).
    let p = StandsTwice_found xs later in
    record { first = suc p.first; second = suc p.second; apart = omega (arith, p.apart); within = omega (arith, p.within); same = p.same })
    (or_cases (list_any (λ y. x == y) xs) (has_double xs) h)

pub found_StandsTwice : (xs : List ℕ) → StandsTwice xs → has_double xs ≡ true
found_StandsTwice xs twice =
    true_from_ne_false (has_double xs) (λ none. AllDiffer_none xs none twice.first twice.second 0 twice.apart twice.within twice.same)

pub finds_doubles : (xs : List ℕ) → FindsDoubles xs
finds_doubles xs = record { found = (StandsTwice_found xs, found_StandsTwice xs); none = (AllDiffer_none xs, none_AllDiffer xs) }

kept : (xs ys : List ℕ) → IsPermutation xs ys → has_double xs ≡ false → has_double ys ≡ false
kept xs ys moved h = no_double ys (IsDistinct-IsPermutation (λ x y. x == y) (λ x y. grind arith) xs ys moved (distinct xs h))

-- exchanges of places make no double and undo none
pub has_double-IsPermutation : (xs ys : List ℕ) → IsPermutation xs ys → has_double xs ≡ has_double ys
has_double-IsPermutation xs ys moved =
    ⊎_elim
    (λ (yes : has_double xs ≡ true). yes ∙ sym (true_from_ne_false (has_double ys) (λ no. false≢true (sym (kept ys xs (IsPermutation-sym xs ys moved) no) ∙ yes))))
    (λ (no : has_double xs ≡ false). no ∙ sym (kept xs ys moved no))
    (cases_Bool (has_double xs))

pub has_double-neighbours : (xs : List ℕ) → (k : ℕ) × (k + 1 < length xs) × (get_or xs k 0 ≡ get_or xs (k + 1) 0) → has_double xs ≡ true
has_double-neighbours xs pair =
    found_StandsTwice xs (record { first = pair.0; second = pair.0 + 1; apart = omega arith; within = pair.1; same = pair.2 })

-- numbers in order, of which no neighbours are equal, have no double
pub has_double-sorted : (xs : List ℕ) → IsSorted nat_cmp xs → ((k : ℕ) → k + 1 < length xs → get_or xs k 0 ≢ get_or xs (k + 1) 0) → has_double xs ≡ false
has_double-sorted xs sorted apart = none_AllDiffer xs (λ i j d lt within same. let less = AllPairs-from_increasing xs rises i j d lt within in omega arith)
  where
    rises : IsStrictlyIncreasing xs
    rises k within =
        let le = IsNonDecreasingBy-from_sort (λ x. x) xs sorted k (k + 1) 0 (omega arith) within in
        let ne : get_or xs k 0 ≢ get_or xs (k + 1) 0 = apart k within in
        omega arith

-- what neighbours show of numbers that were put in order
pub has_double-in_order : (xs ys : List ℕ) (b : Bool) → IsPermutation xs ys → IsSorted nat_cmp ys
    → (b ≡ true → (k : ℕ) × (k + 1 < length ys) × (get_or ys k 0 ≡ get_or ys (k + 1) 0))
    → (b ≡ false → (k : ℕ) → k + 1 < length ys → get_or ys k 0 ≢ get_or ys (k + 1) 0) → b ≡ has_double xs
has_double-in_order xs ys true moved sorted found none = sym (has_double-IsPermutation xs ys moved ∙ has_double-neighbours ys (found refl))
has_double-in_order xs ys false moved sorted found none = sym (has_double-IsPermutation xs ys moved ∙ has_double-sorted ys sorted (none refl))
