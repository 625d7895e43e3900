-- Lists of numbers in order: one more, one less.
use Rattle.std.proofs.Common.{◌≡◌, ℕ, ◌<◌, ◌≤◌, Bool, true, false, cond, ◌||◌, ◌&&◌, not, eqb, List, [], ◌∷◌, refl, sym, ap, subst, ◌∙◌, inl, inr, arith}
use Rattle.std.specs.Prelude.{filter}
use Rattle.std.specs.List.{list_any, AllByRecursion}
use Rattle.std.specs.List.Sorted.{IsStrictlySortedBy}
use Rattle.std.specs.declared.cmp.Ordering.{Ordering}
use Rattle.std.specs.declared.cmp.Ordering.TheVariants.{Less, Equal, Greater}
use Rattle.std.specs.Ordering.{nat_cmp, is_eq, match_ordering}
use Rattle.std.specs.Cmp.{nat_cmp_is}
use Rattle.std.specs.BTreeMap.{is_at}
use Rattle.std.specs.BTreeSet.{insert_key}
use Rattle.std.specs.Set.{remove_key}
use Rattle.std.proofs.Math.Nat.{eq-or-lt_of_le}
use Rattle.std.proofs.lemmas.Bool.{cases_lt, ne_eqb, eq-eqb, eqb-true}
use Rattle.std.proofs.lemmas.Map.Keys.{sorted_head, sorted_tail}
use Rattle.std.proofs.lemmas.Map.Views.{any-filter_same}

or_same : (a b : Bool) → (a || b) ≡ (a || (a || b))
or_same true b = refl
or_same false b = refl

or_swap : (a b c : Bool) → (a || (b || c)) ≡ (b || (a || c))
or_swap true true c = refl
or_swap true false c = refl
or_swap false true c = refl
or_swap false false c = refl

-- a number that comes before another is another
apart_from_less : (x y : ℕ) → nat_cmp x y ≡ Less → eqb y x ≡ false
apart_from_less x y less = ne_eqb y x (λ same. let equal : Equal ≡ nat_cmp x y = nat_cmp_is x y Equal (sym same) in let bad : Equal ≡ Less = equal ∙ less in cc)

-- to compare equal is to be equal
is_at-number : (n x : ℕ) → is_at (nat_cmp n) x ≡ eqb x n
is_at-number n x =
    elim (cases_lt n x) [
      | inl below ↦ ap is_eq (sym (nat_cmp_is n x Less below)) ∙ sym (ne_eqb x n (λ same. omega arith))
      | inr up_to ↦ elim (eq-or-lt_of_le up_to) [
        | inl same ↦ ap is_eq (sym (nat_cmp_is n x Equal (sym same))) ∙ sym (eq-eqb x n same)
        | inr above ↦ ap is_eq (sym (nat_cmp_is n x Greater above)) ∙ sym (ne_eqb x n (λ same. omega arith))
      ]
    ]

-- numbers that all come behind another are kept without it
filter-behind : (n : ℕ) (xs : List ℕ) → AllByRecursion (λ y. nat_cmp n y ≡ Less) xs → filter (λ m. not (eqb m n)) xs ≡ xs
filter-behind n [] behind = refl
filter-behind n (y ∷ ys) behind =
    ap (λ (b : Bool). cond (not b) (y ∷ filter (λ m. not (eqb m n)) ys) (filter (λ m. not (eqb m n)) ys)) (apart_from_less n y behind.0)
    ∙ ap (λ (rest : List ℕ). y ∷ rest) (filter-behind n ys behind.1)

-- numbers in order without one are those that aren't that one
pub remove_key-number : (n : ℕ) (xs : List ℕ) → IsStrictlySortedBy nat_cmp xs → remove_key (is_at (nat_cmp n)) xs ≡ filter (λ m. not (eqb m n)) xs
remove_key-number n [] ordered = refl
remove_key-number n (x ∷ xs) ordered =
    ap (λ (b : Bool). cond b xs (x ∷ remove_key (is_at (nat_cmp n)) xs)) (is_at-number n x) ∙ by (remove_key-number n xs (sorted_tail nat_cmp x xs ordered)) (eqb x n) refl
  where
    by : remove_key (is_at (nat_cmp n)) xs ≡ filter (λ m. not (eqb m n)) xs → (b : Bool) → eqb x n ≡ b → cond b xs (x ∷ remove_key (is_at (nat_cmp n)) xs) ≡ cond (not b) (x ∷ filter (λ m. not (eqb m n)) xs) (filter (λ m. not (eqb m n)) xs)
    by rest true same =
        let Kept : ℕ → Type 0 = λ k. filter (λ m. not (eqb m k)) xs ≡ xs in
        sym (subst Kept (eqb-true x n same) (filter-behind x xs (sorted_head nat_cmp x xs ordered)))
    by rest false other = ap (λ (others : List ℕ). x ∷ others) rest

-- with one number more a list has that number and those that it had
pub any-insert_key : (n other : ℕ) (xs : List ℕ) → list_any (λ m. eqb m other) (insert_key nat_cmp xs n) ≡ (eqb n other || list_any (λ m. eqb m other) xs)
any-insert_key n other [] = refl
any-insert_key n other (x ∷ xs) =
    elim (cases_lt n x) [
      | inl below ↦ placed Less (nat_cmp_is n x Less below)
      | inr up_to ↦ elim (eq-or-lt_of_le up_to) [
        | inl same ↦ placed Equal (nat_cmp_is n x Equal (sym same))
            ∙ (let Same : ℕ → Type 0 = λ k. (eqb x other || list_any (λ m. eqb m other) xs) ≡ (eqb k other || (eqb x other || list_any (λ m. eqb m other) xs)) in
            subst Same same (or_same (eqb x other) (list_any (λ m. eqb m other) xs)))
        | inr above ↦ placed Greater (nat_cmp_is n x Greater above)
            ∙ ap (λ (rest : Bool). eqb x other || rest) (any-insert_key n other xs)
            ∙ or_swap (eqb x other) (eqb n other) (list_any (λ m. eqb m other) xs)
      ]
    ]
  where
    placed : (order : Ordering) → order ≡ nat_cmp n x → list_any (λ m. eqb m other) (insert_key nat_cmp (x ∷ xs) n) ≡ list_any (λ m. eqb m other) (match_ordering order (n ∷ x ∷ xs) (x ∷ xs) (x ∷ insert_key nat_cmp xs n))
    placed order is_order = ap (λ (o : Ordering). list_any (λ m. eqb m other) (match_ordering o (n ∷ x ∷ xs) (x ∷ xs) (x ∷ insert_key nat_cmp xs n))) (sym is_order)

-- without a number a list has those that it had but that one
pub any-without : (n other : ℕ) (xs : List ℕ) → list_any (λ m. eqb m other) (filter (λ m. not (eqb m n)) xs) ≡ (not (eqb other n) && list_any (λ m. eqb m other) xs)
any-without n other xs =
    any-filter_same (λ m. eqb m other) (λ m. not (eqb m n)) (not (eqb other n))
    (λ k found. ap (λ (m : ℕ). not (eqb m n)) (eqb-true k other found)) xs

-- a number that is added and taken away leaves those that were there, where it wasn't
pub any-restored : (n other : ℕ) (xs : List ℕ) → list_any (λ m. eqb m n) xs ≡ false
    → list_any (λ m. eqb m other) (filter (λ m. not (eqb m n)) (insert_key nat_cmp xs n)) ≡ list_any (λ m. eqb m other) xs
any-restored n other xs absent =
    any-without n other (insert_key nat_cmp xs n) ∙ ap (λ (rest : Bool). not (eqb other n) && rest) (any-insert_key n other xs)
    ∙ by (eqb other n) refl
  where
    by : (b : Bool) → eqb other n ≡ b → (not b && (eqb n other || list_any (λ m. eqb m other) xs)) ≡ list_any (λ m. eqb m other) xs
    by true same =
        let Absent : ℕ → Type 0 = λ k. false ≡ list_any (λ m. eqb m k) xs in
        subst Absent (sym (eqb-true other n same)) (sym absent)
    by false different =
        ap (λ (b : Bool). b || list_any (λ m. eqb m other) xs) (ne_eqb n other (λ same. let equal : eqb other n ≡ true = eq-eqb other n (sym same) in let bad : false ≡ true = sym different ∙ equal in cc))
