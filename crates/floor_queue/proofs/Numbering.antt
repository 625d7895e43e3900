-- Ascending numbers: what is put among them, and that those with the same members are the same.
use Rattle.std.proofs.Common.{◌≡◌, ℕ, ◌+◌, zero, suc, Bool, true, false, cond, List, [], ◌∷◌, get_or, refl, sym, ◌∙◌, ap, arith}
use Rattle.std.specs.Prelude.{not, ◌&&◌, ◌||◌, ◌==◌, if◌then◌else◌, nat_lt, filter, insert}
use Rattle.std.specs.List.{list_all, list_any, position_or_len, slice_get}
use Rattle.std.specs.List.Sorted.{IsPartitionedBy}
use Rattle.std.specs.Option.{option_map_or}
use Rattle.std.proofs.Math.Numerals.{one-add}
use Rattle.std.proofs.lemmas.List.Sums.{AllPass-from_list_all}
use Rattle.std.proofs.lemmas.Bool.Decides.{nat_tests}
use Rattle.floor_queue.specs.declared.request.Request.{Request}
use Rattle.floor_queue.specs.Queue.{is_ascending, numbers_of}
use Rattle.floor_queue.specs.steps.Numbers.{is_in, ascend, with_number}
use Rattle.floor_queue.proofs.Counts.{and_left, and_right, and_both, list_all_mono}

any_left : (a b : Bool) → a ≡ true → (a || b) ≡ true
any_left true b h = refl
any_left false b h = cc

equal : (k : ℕ) → (k == k) ≡ true
equal k = grind (arith, nat_tests)

pub is_in-with_number : (k m : ℕ) (ns : List ℕ) → is_in m (with_number k ns) ≡ (is_in m ns || k == m)
is_in-with_number k m [] = by (k == m)
  where
    by : (b : Bool) → (b || false) ≡ (false || b)
    by true = refl
    by false = refl
is_in-with_number k m (n ∷ ns) = by (nat_lt n k) (n == k) refl (is_in-with_number k m ns)
  where
    later : (a b c d : Bool) → b ≡ (c || d) → (a || b) ≡ ((a || c) || d)
    later true b c d e = refl
    later false b c d e = e

    first : (a b c : Bool) → (a || (b || c)) ≡ ((b || c) || a)
    first true true c = refl
    first true false true = refl
    first true false false = refl
    first false true c = refl
    first false false true = refl
    first false false false = refl

    again : (a b : Bool) → (a || b) ≡ ((a || b) || a)
    again true b = refl
    again false true = refl
    again false false = refl

    equals : (a b c : ℕ) → (a == b) ≡ true → (b == c) ≡ (a == c)
    equals a b c e = grind (arith, nat_tests)

    by : (b c : Bool) → (n == k) ≡ c → is_in m (with_number k ns) ≡ (is_in m ns || k == m) → is_in m (if b then n ∷ with_number k ns else (if c then n ∷ ns else k ∷ n ∷ ns)) ≡ ((n == m || is_in m ns) || k == m)
    by true c e rest = later (n == m) (is_in m (with_number k ns)) (is_in m ns) (k == m) rest
    by false true e rest = again (n == m) (is_in m ns) ∙ ap (λ b. (n == m || is_in m ns) || b) (sym (equals n k m e))
    by false false e rest = first (k == m) (n == m) (is_in m ns)

list_all-with_number : (p : ℕ → Bool) (k : ℕ) (ns : List ℕ) → p k ≡ true → list_all p ns ≡ true → list_all p (with_number k ns) ≡ true
list_all-with_number p k [] h all = and_both _ _ h refl
list_all-with_number p k (n ∷ ns) h all = by (nat_lt n k) (n == k) (list_all-with_number p k ns h (and_right _ _ all))
  where
    by : (b c : Bool) → list_all p (with_number k ns) ≡ true → list_all p (if b then n ∷ with_number k ns else (if c then n ∷ ns else k ∷ n ∷ ns)) ≡ true
    by true c rest = and_both _ _ (and_left _ _ all) rest
    by false true rest = all
    by false false rest = and_both _ _ h all

pub ascend-with_number : (k : ℕ) (ns : List ℕ) → ascend ns ≡ true → ascend (with_number k ns) ≡ true
ascend-with_number k [] h = refl
ascend-with_number k (n ∷ ns) h = by (nat_lt n k) (n == k) refl refl (ascend-with_number k ns (and_right _ _ h))
  where
    above : (a b : ℕ) → nat_lt a b ≡ false → (a == b) ≡ false → nat_lt b a ≡ true
    above a b e f = grind (arith, nat_tests)

    over : (a b c : ℕ) → nat_lt a b ≡ true → nat_lt b c ≡ true → nat_lt a c ≡ true
    over a b c e f = grind (arith, nat_tests)

    by : (b c : Bool) → nat_lt n k ≡ b → (n == k) ≡ c → ascend (with_number k ns) ≡ true → ascend (if b then n ∷ with_number k ns else (if c then n ∷ ns else k ∷ n ∷ ns)) ≡ true
    by true c l e rest = and_both _ _ (list_all-with_number (nat_lt n) k ns l (and_left _ _ h)) rest
    by false true l e rest = h
    by false false l e rest =
        and_both _ _ (and_both _ _ (above n k l e) (list_all_mono (nat_lt n) (nat_lt k) (λ m u. over k n m (above n k l e) u) ns (and_left _ _ h))) h

-- none is among numbers that are all higher
none_below : (k : ℕ) (ns : List ℕ) → list_all (nat_lt k) ns ≡ true → is_in k ns ≡ false
none_below k [] h = refl
none_below k (n ∷ ns) h = neither (n == k) _ (differs k n (and_left _ _ h)) (none_below k ns (and_right _ _ h))
  where
    differs : (a b : ℕ) → nat_lt a b ≡ true → (b == a) ≡ false
    differs a b e = grind (arith, nat_tests)

    neither : (a b : Bool) → a ≡ false → b ≡ false → (a || b) ≡ false
    neither true b e f = e
    neither false b e f = f

-- ascending numbers with the same members are the same
pub same_members : (ns ms : List ℕ) → ascend ns ≡ true → ascend ms ≡ true → ((k : ℕ) → is_in k ns ≡ is_in k ms) → ns ≡ ms
same_members [] [] h g same = refl
same_members [] (m ∷ ms) h g same = let k : false ≡ true = same m ∙ any_left (m == m) (is_in m ms) (equal m) in cc
same_members (n ∷ ns) [] h g same = let k : true ≡ false = sym (any_left (n == n) (is_in n ns) (equal n)) ∙ same n in cc
same_members (n ∷ ns) (m ∷ ms) h g same = both first (same_members ns ms (and_right _ _ h) (and_right _ _ g) rest)
  where
    both : {a b : ℕ} {as' bs : List ℕ} → a ≡ b → as' ≡ bs → (a ∷ as') ≡ (b ∷ bs)
    both e f = cc

    either : (a b : Bool) → (a || b) ≡ true → {P : Type 0} → (a ≡ true → P) → (b ≡ true → P) → P
    either true b h f g = f refl
    either false b h f g = g h

    meets : (a b : ℕ) → (a == b) ≡ true → a ≡ b
    meets a b e = grind (arith, nat_tests)

    crossed : (a b : ℕ) → nat_lt a b ≡ true → nat_lt b a ≡ true → a ≡ b
    crossed a b e f = grind (arith, nat_tests)

    below : (a : ℕ) (xs : List ℕ) (k : ℕ) → list_all (nat_lt a) xs ≡ true → is_in k xs ≡ true → nat_lt a k ≡ true
    below a [] k all e = cc
    below a (x ∷ xs) k all e = either (x == k) (is_in k xs) e (λ u. ap (nat_lt a) (sym (meets x k u)) ∙ and_left _ _ all) (below a xs k (and_right _ _ all))

    first : n ≡ m
    first =
        either (m == n) (is_in n ms) (sym (same n) ∙ any_left (n == n) (is_in n ns) (equal n)) (λ e. sym (meets m n e))
        (λ e. either (n == m) (is_in m ns) (same m ∙ any_left (m == m) (is_in m ms) (equal m)) (meets n m) (λ f. crossed n m (below n ns m (and_left _ _ h) f) (below m ms n (and_left _ _ g) e)))

    rest : (k : ℕ) → is_in k ns ≡ is_in k ms
    rest k = by (n == k) refl
      where
        tails : (a b c d : Bool) → a ≡ false → b ≡ false → (a || c) ≡ (b || d) → c ≡ d
        tails true b c d e f h = cc
        tails false true c d e f h = cc
        tails false false c d e f h = h

        by : (b : Bool) → (n == k) ≡ b → is_in k ns ≡ is_in k ms
        by true e =
            ap (λ k. is_in k ns) (sym (meets n k e)) ∙ none_below n ns (and_left _ _ h) ∙ sym (ap (λ k. is_in k ms) (sym (meets n k e) ∙ first) ∙ none_below m ms (and_left _ _ g))
        by false e = tails (n == k) (m == k) (is_in k ns) (is_in k ms) e (ap (λ i. i == k) (sym first) ∙ e) (same k)

pub is_in-numbers : (p : Request → Bool) (k : ℕ) (rs : List Request) → is_in k (numbers_of (filter p rs)) ≡ list_any (λ r. p r && r.number == k) rs
is_in-numbers p k [] = refl
is_in-numbers p k (r ∷ rs) = by (p r) (is_in-numbers p k rs)
  where
    by : (b : Bool) → is_in k (numbers_of (filter p rs)) ≡ list_any (λ r. p r && r.number == k) rs → is_in k (numbers_of (cond b (r ∷ filter p rs) (filter p rs))) ≡ ((b && r.number == k) || list_any (λ r. p r && r.number == k) rs)
    by true e = ap (λ b. r.number == k || b) e
    by false e = e

pub ascend-numbers : (p : Request → Bool) (rs : List Request) → is_ascending rs ≡ true → ascend (numbers_of (filter p rs)) ≡ true
ascend-numbers p [] h = refl
ascend-numbers p (r ∷ rs) h = by (p r) (ascend-numbers p rs (and_right _ _ h))
  where
    above : (qs : List Request) → list_all (λ q. nat_lt r.number q.number) qs ≡ true → list_all (nat_lt r.number) (numbers_of (filter p qs)) ≡ true
    above [] all = refl
    above (q ∷ qs) all = at (p q) (above qs (and_right _ _ all))
      where
        at : (b : Bool) → list_all (nat_lt r.number) (numbers_of (filter p qs)) ≡ true → list_all (nat_lt r.number) (numbers_of (cond b (q ∷ filter p qs) (filter p qs))) ≡ true
        at true rest = and_both _ _ (and_left _ _ all) rest
        at false rest = rest

    by : (b : Bool) → ascend (numbers_of (filter p rs)) ≡ true → ascend (numbers_of (cond b (r ∷ filter p rs) (filter p rs))) ≡ true
    by true rest = and_both _ _ (above rs (and_left _ _ h)) rest
    by false rest = rest

-- places among numbers ------------------------------------------------------------------------

-- the place of the first number from k on
abbrev pub place_from : ℕ → List ℕ → ℕ
place_from k ns = position_or_len (λ n. not (nat_lt n k)) ns

abbrev pub stands : ℕ → List ℕ → Bool
stands k ns = option_map_or (λ n. n == k) (slice_get ns (place_from k ns)) false

-- k is put in at its place, where it doesn't stand there
pub insert-number : (k : ℕ) (ns : List ℕ) → stands k ns ≡ false → insert ns (place_from k ns) k ≡ with_number k ns
insert-number k [] h = refl
insert-number k (n ∷ ns) h = by (nat_lt n k) (insert-number k ns) h
  where
    by : (b : Bool) → (stands k ns ≡ false → insert ns (place_from k ns) k ≡ with_number k ns) →
        option_map_or (λ n. n == k) (slice_get (n ∷ ns) (cond (not (not b)) (1 + place_from k ns) 0)) false ≡ false →
        insert (n ∷ ns) (cond (not (not b)) (1 + place_from k ns) 0) k ≡ (if b then n ∷ with_number k ns else (if n == k then n ∷ ns else k ∷ n ∷ ns))
    by true rest h = rw (one-add (place_from k ns)) (ap (λ (ms : List ℕ). n ∷ ms) (rest (rw (one-add (place_from k ns)) at h)))
    by false rest h = rw h refl

-- and is left out where it does
pub with_number-stands : (k : ℕ) (ns : List ℕ) → stands k ns ≡ true → with_number k ns ≡ ns
with_number-stands k [] h = cc
with_number-stands k (n ∷ ns) h = by (nat_lt n k) (with_number-stands k ns) h
  where
    by : (b : Bool) → (stands k ns ≡ true → with_number k ns ≡ ns) → option_map_or (λ n. n == k) (slice_get (n ∷ ns) (cond (not (not b)) (1 + place_from k ns) 0)) false ≡ true →
        (if b then n ∷ with_number k ns else (if n == k then n ∷ ns else k ∷ n ∷ ns)) ≡ n ∷ ns
    by true rest h = ap (λ (ms : List ℕ). n ∷ ms) (rest (rw (one-add (place_from k ns)) at h))
    by false rest h = rw h refl

-- those below k come first
pub partitioned-ascend : (k : ℕ) (ns : List ℕ) → ascend ns ≡ true → IsPartitionedBy (λ n. nat_lt n k) ns
partitioned-ascend k [] h i j d l within e = absurd (omega (arith, within))
partitioned-ascend k (y ∷ ys) h zero zero d l within e = e
partitioned-ascend k (y ∷ ys) h (suc i) zero d l within e = absurd (omega (arith, l))
partitioned-ascend k (y ∷ ys) h (suc i) (suc j) d l within e = partitioned-ascend k ys (and_right _ _ h) i j d (omega (arith, l)) (omega (arith, within)) e
partitioned-ascend k (y ∷ ys) h zero (suc j) d l within e =
    lower y (get_or ys j d) k (AllPass-from_list_all (nat_lt y) ys (and_left _ _ h) j d (omega (arith, within))) e
  where
    lower : (a b c : ℕ) → nat_lt a b ≡ true → nat_lt b c ≡ true → nat_lt a c ≡ true
    lower a b c h k = grind (arith, nat_tests)
