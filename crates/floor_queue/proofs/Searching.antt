-- What a binary search finds in a line, and among requests with ascending numbers.
use Rattle.std.proofs.Common.{◌≡◌, ℕ, ◌≤◌, ◌+◌, Bool, true, false, cond, zero, suc, List, [], ◌∷◌, length, get_or, refl, ◌∙◌, ap, arith}
use Rattle.std.specs.Prelude.{not, ◌==◌, nat_lt, Some, None}
use Rattle.std.specs.List.{list_all, position_or_len, slice_get}
use Rattle.std.specs.List.Sorted.{IsPartitionPoint, IsPartitionedBy}
use Rattle.std.proofs.Math.Numerals.{one-add}
use Rattle.std.proofs.lemmas.Bool.Decides.{nat_tests}
use Rattle.std.proofs.lemmas.List.Sums.{prefix_len_is, AllPass-from_list_all}
use Rattle.floor_queue.specs.declared.index.rank.Rank.{Rank}
use Rattle.floor_queue.specs.declared.request.Request.{Request}
use Rattle.floor_queue.specs.Queue.{is_ascending}
use Rattle.floor_queue.specs.steps.Lines.{before, is_in_order}
use Rattle.floor_queue.proofs.Counts.{and_left, and_right, and_both, list_all_mono}
use Rattle.floor_queue.proofs.Ranking.{not_before}

-- the point where a test ceases to pass is how many of the first pass it
pub position-partition : {X : Type 0} (p : X → Bool) (xs : List X) (i : ℕ) (d : X) → i ≤ length xs → IsPartitionPoint (λ y. p y ≡ true) (λ y. p y ≡ false) xs i → position_or_len (λ y. not (p y)) xs ≡ i
position-partition p xs i d within h =
    prefix_len_is (λ y. not (not (p y))) xs i d within (λ k below. twice (p (get_or xs k d)) (h.0 k d (omega arith) below)) (λ more. none (p (get_or xs i d)) (h.1 i d (omega arith) more))
  where
    twice : (b : Bool) → b ≡ true → not (not b) ≡ true
    twice true e = refl
    twice false e = e

    none : (b : Bool) → b ≡ false → not (not b) ≡ false
    none true e = e
    none false e = refl

-- those before x come first
pub partitioned-rank : (x : Rank) (xs : List Rank) → is_in_order xs ≡ true → IsPartitionedBy (λ k. before k x) xs
partitioned-rank x [] h i j d l within e = absurd (omega (arith, within))
partitioned-rank x (y ∷ ys) h zero zero d l within e = e
partitioned-rank x (y ∷ ys) h (suc i) zero d l within e = absurd (omega (arith, l))
partitioned-rank x (y ∷ ys) h (suc i) (suc j) d l within e = partitioned-rank x ys (and_right _ _ h) i j d (omega (arith, l)) (omega (arith, within)) e
partitioned-rank x (y ∷ ys) h zero (suc j) d l within e = by (before y x) refl
  where
    no : (b : Bool) → b ≡ true → not b ≡ true → false ≡ true
    no true u n = n
    no false u n = u

    by : (b : Bool) → before y x ≡ b → b ≡ true
    by true u = refl
    by false u =
        no (before (get_or ys j d) x) e
        (AllPass-from_list_all (λ (k : Rank). not (before k x)) ys (list_all_mono (λ (k : Rank). not (before k y)) (λ (k : Rank). not (before k x)) (λ k n. ap not (not_before x y k n u)) ys (and_left _ _ h)) j d (omega (arith, within)))

-- numbers ------------------------------------------------------------------------------------

-- a request, for places beyond the list
pub nobody : Request
nobody =
    record { number = 0; requester = 0; beneficiary = 0; priority = 0; info = None; reason = None; floors = []; is_granted = false }

-- those with lower numbers come first
pub partitioned-number : (k : ℕ) (rs : List Request) → is_ascending rs ≡ true → IsPartitionedBy (λ r. nat_lt r.number k) rs
partitioned-number k [] h i j d l within e = absurd (omega (arith, within))
partitioned-number k (y ∷ ys) h zero zero d l within e = e
partitioned-number k (y ∷ ys) h (suc i) zero d l within e = absurd (omega (arith, l))
partitioned-number k (y ∷ ys) h (suc i) (suc j) d l within e = partitioned-number k ys (and_right _ _ h) i j d (omega (arith, l)) (omega (arith, within)) e
partitioned-number k (y ∷ ys) h zero (suc j) d l within e =
    lower y.number (get_or ys j d).number k (AllPass-from_list_all (λ (q : Request). nat_lt y.number q.number) ys (and_left _ _ h) j d (omega (arith, within))) e
  where
    lower : (a b c : ℕ) → nat_lt a b ≡ true → nat_lt b c ≡ true → nat_lt a c ≡ true
    lower a b c h k = grind (arith, nat_tests)

-- the place of the first number from k on
abbrev from_number : ℕ → List Request → ℕ
from_number k rs = position_or_len (λ r. not (nat_lt r.number k)) rs

none_there : (k : ℕ) (rs : List Request) → list_all (λ r. not (r.number == k)) rs ≡ true → position_or_len (λ r. r.number == k) rs ≡ length rs
none_there k [] h = refl
none_there k (x ∷ xs) h = by (x.number == k) (and_left _ _ h) (none_there k xs (and_right _ _ h))
  where
    by : (b : Bool) → not b ≡ true → position_or_len (λ r. r.number == k) xs ≡ length xs → cond (not b) (1 + position_or_len (λ r. r.number == k) xs) 0 ≡ length (x ∷ xs)
    by true n e = cc
    by false n e = omega (arith, e)

below_other : (a k : ℕ) → nat_lt a k ≡ true → (a == k) ≡ false
below_other a k h = grind (arith, nat_tests)

-- the request there has the number
pub number-found : (k : ℕ) (rs : List Request) (r : Request) → is_ascending rs ≡ true → slice_get rs (from_number k rs) ≡ Some r → (r.number == k) ≡ true → position_or_len (λ r. r.number == k) rs ≡ from_number k rs
number-found k [] r h e n = refl
number-found k (x ∷ xs) r h e n = by (nat_lt x.number k) refl (λ e. number-found k xs r (and_right _ _ h) e n) e
  where
    skip : (c : Bool) (a b : ℕ) → c ≡ false → a ≡ b → cond (not c) (1 + a) 0 ≡ 1 + b
    skip true a b f e = cc
    skip false a b f e = omega (arith, e)

    stop : (c : Bool) (a : ℕ) → c ≡ true → cond (not c) (1 + a) 0 ≡ 0
    stop true a f = refl
    stop false a f = cc

    by : (b : Bool) → nat_lt x.number k ≡ b → (slice_get xs (from_number k xs) ≡ Some r → position_or_len (λ r. r.number == k) xs ≡ from_number k xs) →
        slice_get (x ∷ xs) (cond (not (not b)) (1 + from_number k xs) 0) ≡ Some r →
        cond (not (x.number == k)) (1 + position_or_len (λ r. r.number == k) xs) 0 ≡ cond (not (not b)) (1 + from_number k xs) 0
    by true u rest e = skip (x.number == k) _ _ (below_other x.number k u) (rest (rw (one-add (from_number k xs)) at e))
    by false u rest e = let same : x ≡ r = cc in stop (x.number == k) _ (ap (λ (q : Request). q.number == k) same ∙ n)

-- the request there has another number
pub number-absent : (k : ℕ) (rs : List Request) (r : Request) → is_ascending rs ≡ true → slice_get rs (from_number k rs) ≡ Some r → (r.number == k) ≡ false → position_or_len (λ r. r.number == k) rs ≡ length rs
number-absent k [] r h e n = refl
number-absent k (x ∷ xs) r h e n = by (nat_lt x.number k) refl (λ e. number-absent k xs r (and_right _ _ h) e n) e
  where
    skip : (c : Bool) (a b : ℕ) → c ≡ false → a ≡ b → cond (not c) (1 + a) 0 ≡ suc b
    skip true a b f e = cc
    skip false a b f e = omega (arith, e)

    above : (a b k : ℕ) → nat_lt a k ≡ false → (a == k) ≡ false → nat_lt a b ≡ true → not (b == k) ≡ true
    above a b k u n l = grind (arith, nat_tests)

    by : (b : Bool) → nat_lt x.number k ≡ b → (slice_get xs (from_number k xs) ≡ Some r → position_or_len (λ r. r.number == k) xs ≡ length xs) →
        slice_get (x ∷ xs) (cond (not (not b)) (1 + from_number k xs) 0) ≡ Some r → position_or_len (λ r. r.number == k) (x ∷ xs) ≡ length (x ∷ xs)
    by true u rest e = skip (x.number == k) _ _ (below_other x.number k u) (rest (rw (one-add (from_number k xs)) at e))
    by false u rest e =
        let same : x ≡ r = cc in
        let other : (x.number == k) ≡ false = ap (λ (q : Request). q.number == k) same ∙ n in
        none_there k (x ∷ xs)
        (and_both _ _ (ap not other) (list_all_mono (λ (q : Request). nat_lt x.number q.number) (λ (q : Request). not (q.number == k)) (λ q l. above x.number q.number k u other l) xs (and_left _ _ h)))

-- no request is there
pub number-beyond : (k : ℕ) (rs : List Request) → slice_get rs (from_number k rs) ≡ None → position_or_len (λ r. r.number == k) rs ≡ length rs
number-beyond k [] e = refl
number-beyond k (x ∷ xs) e = by (nat_lt x.number k) refl (number-beyond k xs) e
  where
    skip : (c : Bool) (a b : ℕ) → c ≡ false → a ≡ b → cond (not c) (1 + a) 0 ≡ suc b
    skip true a b f e = cc
    skip false a b f e = omega (arith, e)

    by : (b : Bool) → nat_lt x.number k ≡ b → (slice_get xs (from_number k xs) ≡ None → position_or_len (λ r. r.number == k) xs ≡ length xs) →
        slice_get (x ∷ xs) (cond (not (not b)) (1 + from_number k xs) 0) ≡ None → position_or_len (λ r. r.number == k) (x ∷ xs) ≡ length (x ∷ xs)
    by true u rest e = skip (x.number == k) _ _ (below_other x.number k u) (rest (rw (one-add (from_number k xs)) at e))
    by false u rest e = cc
