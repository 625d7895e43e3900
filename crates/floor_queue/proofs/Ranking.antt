-- The ranks of a line: `before` is a strict order, and what a line's edits keep and count.
use Rattle.std.proofs.Common.{◌≡◌, ℕ, ◌≤◌, ◌<◌, ◌+◌, Bool, true, false, cond, List, [], ◌∷◌, length, refl, sym, ◌∙◌, ap, arith}
use Rattle.std.specs.Prelude.{not, ◌||◌, if◌then◌else◌, count_by, insert, remove}
use Rattle.std.specs.List.{list_all}
use Rattle.std.proofs.Math.Numerals.{one-add}
use Rattle.std.proofs.lemmas.Bool.{lt-ltb}
use Rattle.std.proofs.lemmas.Bool.Decides.{nat_tests}
use Rattle.floor_queue.specs.declared.index.rank.Rank.{Rank}
use Rattle.floor_queue.specs.steps.Lines.{before, first_by, first_by_priority, is_in_order, moved_rank, place_in, with_rank, without_rank}
use Rattle.floor_queue.proofs.Counts.{one, count-cons, and_left, and_right, and_both, list_all_mono, count_none}
use Rattle.floor_queue.proofs.Earlier.{chosen_trans, chosen_same}

priority_irreflexive : (a : Rank) → first_by_priority a a ≡ false
priority_irreflexive a = grind (arith, nat_tests)

priority_trans : (a b c : Rank) → first_by_priority a b ≡ true → first_by_priority b c ≡ true → first_by_priority a c ≡ true
priority_trans a b c h k = grind (arith, nat_tests)

priority_same : (a b : Rank) → first_by_priority a b ≡ false → first_by_priority b a ≡ false → a.priority ≡ b.priority
priority_same a b h k = grind (arith, nat_tests)

number_same : (a b : Rank) → first_by_priority a b ≡ false → first_by_priority b a ≡ false → a.number ≡ b.number
number_same a b h k = grind (arith, nat_tests)

-- where neither is first, both have the mark or neither, and the rest says so too
neither_first : (a b t u : Bool) → {P : Type 0} → (a ≡ b → t ≡ false → u ≡ false → P) → first_by a b t ≡ false → first_by b a u ≡ false → P
neither_first true true t u f h k = f refl h k
neither_first true false t u f h k = cc
neither_first false true t u f h k = cc
neither_first false false t u f h k = f refl h k

ranks_same : (a b : Rank) → a.is_granted ≡ b.is_granted → a.waits ≡ b.waits → a.is_express ≡ b.is_express → a.priority ≡ b.priority → a.number ≡ b.number → a ≡ b
ranks_same a b g w e p n =
    let made : Bool → Bool → Bool → ℕ → ℕ → Rank = λ g w e p n. record { is_granted = g; waits = w; is_express = e; priority = p; number = n } in
    let same : made a.is_granted a.waits a.is_express a.priority a.number ≡ made b.is_granted b.waits b.is_express b.priority b.number = cc in
    same

pub before_irreflexive : (a : Rank) → before a a ≡ false
unfolding before
before_irreflexive a =
    chosen_same a.is_granted _ (chosen_same a.waits _ (chosen_same a.is_express _ (priority_irreflexive a)))

pub before_trans : (a b c : Rank) → before a b ≡ true → before b c ≡ true → before a c ≡ true
unfolding before
before_trans a b c h k =
    chosen_trans a.is_granted b.is_granted c.is_granted _ _ _
    (chosen_trans a.waits b.waits c.waits _ _ _ (chosen_trans a.is_express b.is_express c.is_express _ _ _ (priority_trans a b c))) h k

pub before_total : (a b : Rank) → before a b ≡ false → before b a ≡ false → a ≡ b
unfolding before
before_total a b h k =
    neither_first a.is_granted b.is_granted _ _
    (λ g h k. neither_first a.waits b.waits _ _
    (λ w h k. neither_first a.is_express b.is_express _ _
    (λ e h k. ranks_same a b g w e (priority_same a b h k) (number_same a b h k)) h k) h k) h k

-- k isn't before x, where it isn't before one that isn't before x
pub not_before : (x y k : Rank) → not (before k y) ≡ true → before y x ≡ false → before k x ≡ false
not_before x y k h e = by (before k x) refl (before y k) refl
  where
    no : (b : Bool) → not b ≡ true → b ≡ false
    no true h = cc
    no false h = refl

    by : (b : Bool) → before k x ≡ b → (c : Bool) → before y k ≡ c → b ≡ false
    by false u c v = refl
    by true u true v = sym (before_trans y k x v u) ∙ e
    by true u false v = sym u ∙ ap (λ j. before j x) (sym (before_total y k v (no (before k y) h))) ∙ e

pub after_not_before : (x y : Rank) → before y x ≡ true → not (before x y) ≡ true
after_not_before x y h = by (before x y) refl
  where
    by : (b : Bool) → before x y ≡ b → not b ≡ true
    by false u = refl
    by true u = let k : true ≡ false = sym (before_trans x y x u h) ∙ before_irreflexive x in cc

-- in a line in order, the place of x is how many are before it
pub count-place : (x : Rank) (xs : List Rank) → is_in_order xs ≡ true → count_by (λ k. before k x) xs ≡ place_in x xs
count-place x [] h = refl
count-place x (y ∷ ys) h = by (before y x) refl (count-cons (λ k. before k x) y ys) (count-place x ys (and_right _ _ h))
  where
    by : (b : Bool) → before y x ≡ b → count_by (λ k. before k x) (y ∷ ys) ≡ one (before y x) + count_by (λ k. before k x) ys → count_by (λ k. before k x) ys ≡ place_in x ys →
        count_by (λ k. before k x) (y ∷ ys) ≡ cond (not (not b)) (1 + place_in x ys) 0
    by true e c rest = omega (arith, c, rest, ap one e)
    by false e c rest =
        let none : count_by (λ k. before k x) ys ≡ 0 = count_none (λ (k : Rank). before k x) ys
        (list_all_mono (λ (k : Rank). not (before k y)) (λ (k : Rank). not (before k x)) (λ k n. ap not (not_before x y k n e)) ys (and_left _ _ h)) in
        omega (arith, c, none, ap one e)

-- what is put in at its place, and taken out
pub insert-place : (x : Rank) (xs : List Rank) → insert xs (place_in x xs) x ≡ with_rank x xs
insert-place x [] = refl
insert-place x (y ∷ ys) = by (before y x) (insert-place x ys)
  where
    by : (b : Bool) → insert ys (place_in x ys) x ≡ with_rank x ys →
        insert (y ∷ ys) (cond (not (not b)) (1 + place_in x ys) 0) x ≡ (if b then y ∷ with_rank x ys else x ∷ y ∷ ys)
    by true e = rw (one-add (place_in x ys)) (ap (λ (zs : List Rank). y ∷ zs) e)
    by false e = refl

pub remove-place : (x : Rank) (xs : List Rank) → remove xs (place_in x xs) ≡ without_rank x xs
remove-place x [] = refl
remove-place x (y ∷ ys) = by (before y x) (remove-place x ys)
  where
    by : (b : Bool) → remove ys (place_in x ys) ≡ without_rank x ys →
        remove (y ∷ ys) (cond (not (not b)) (1 + place_in x ys) 0) ≡ (if b then y ∷ without_rank x ys else ys)
    by true e = rw (one-add (place_in x ys)) (ap (λ (zs : List Rank). y ∷ zs) e)
    by false e = refl

-- what is left where the one at the place of x was taken out
pub removed-place : (x : Rank) (xs ys : List Rank) (n : ℕ) → ys ≡ remove xs n → n ≡ place_in x xs → ys ≡ without_rank x xs
removed-place x xs ys n h e = h ∙ ap (remove xs) e ∙ remove-place x xs

pub without-none : (x : Rank) (xs : List Rank) → length xs ≤ place_in x xs → without_rank x xs ≡ xs
without-none x [] h = refl
without-none x (y ∷ ys) h = by (before y x) (without-none x ys) h
  where
    by : (b : Bool) → (length ys ≤ place_in x ys → without_rank x ys ≡ ys) → length (y ∷ ys) ≤ cond (not (not b)) (1 + place_in x ys) 0 →
        (if b then y ∷ without_rank x ys else ys) ≡ y ∷ ys
    by true rest l = ap (λ (zs : List Rank). y ∷ zs) (rest (omega (arith, l)))
    by false rest l = absurd (omega (arith, l))

list_all-with_rank : (p : Rank → Bool) (x : Rank) (xs : List Rank) → p x ≡ true → list_all p xs ≡ true → list_all p (with_rank x xs) ≡ true
list_all-with_rank p x [] h k = and_both _ _ h refl
list_all-with_rank p x (y ∷ ys) h k = by (before y x) (list_all-with_rank p x ys h (and_right _ _ k))
  where
    by : (b : Bool) → list_all p (with_rank x ys) ≡ true → list_all p (if b then y ∷ with_rank x ys else x ∷ y ∷ ys) ≡ true
    by true rest = and_both _ _ (and_left _ _ k) rest
    by false rest = and_both _ _ h k

pub in_order-with_rank : (x : Rank) (xs : List Rank) → is_in_order xs ≡ true → is_in_order (with_rank x xs) ≡ true
in_order-with_rank x [] h = refl
in_order-with_rank x (y ∷ ys) h = by (before y x) refl (in_order-with_rank x ys (and_right _ _ h))
  where
    by : (b : Bool) → before y x ≡ b → is_in_order (with_rank x ys) ≡ true → is_in_order (if b then y ∷ with_rank x ys else x ∷ y ∷ ys) ≡ true
    by true e rest = and_both _ _ (list_all-with_rank (λ (k : Rank). not (before k y)) x ys (after_not_before x y e) (and_left _ _ h)) rest
    by false e rest =
        and_both _ _
        (and_both _ _ (ap not e) (list_all_mono (λ (k : Rank). not (before k y)) (λ (k : Rank). not (before k x)) (λ k n. ap not (not_before x y k n e)) ys (and_left _ _ h))) h

list_all-without_rank : (p : Rank → Bool) (x : Rank) (xs : List Rank) → list_all p xs ≡ true → list_all p (without_rank x xs) ≡ true
list_all-without_rank p x [] k = refl
list_all-without_rank p x (y ∷ ys) k = by (before y x) (list_all-without_rank p x ys (and_right _ _ k))
  where
    by : (b : Bool) → list_all p (without_rank x ys) ≡ true → list_all p (if b then y ∷ without_rank x ys else ys) ≡ true
    by true rest = and_both _ _ (and_left _ _ k) rest
    by false rest = and_right _ _ k

pub in_order-without_rank : (x : Rank) (xs : List Rank) → is_in_order xs ≡ true → is_in_order (without_rank x xs) ≡ true
in_order-without_rank x [] h = refl
in_order-without_rank x (y ∷ ys) h = by (before y x) (in_order-without_rank x ys (and_right _ _ h))
  where
    by : (b : Bool) → is_in_order (without_rank x ys) ≡ true → is_in_order (if b then y ∷ without_rank x ys else ys) ≡ true
    by true rest = and_both _ _ (list_all-without_rank (λ (k : Rank). not (before k y)) x ys (and_left _ _ h)) rest
    by false rest = and_right _ _ h

pub count-with_rank : (p : Rank → Bool) (x : Rank) (xs : List Rank) → count_by p (with_rank x xs) ≡ one (p x) + count_by p xs
count-with_rank p x [] = count-cons p x []
count-with_rank p x (y ∷ ys) = by (before y x) (count-with_rank p x ys)
  where
    by : (b : Bool) → count_by p (with_rank x ys) ≡ one (p x) + count_by p ys → count_by p (if b then y ∷ with_rank x ys else x ∷ y ∷ ys) ≡ one (p x) + count_by p (y ∷ ys)
    by true rest = omega (arith, rest, count-cons p y ys, count-cons p y (with_rank x ys))
    by false rest = count-cons p x (y ∷ ys)

-- x is one of xs: it passes each test that all of them pass
abbrev pub IsIn : List Rank → Rank → Type 0
IsIn xs x = (p : Rank → Bool) → list_all p xs ≡ true → p x ≡ true

no : (b : Bool) → not b ≡ true → b ≡ false
no true h = cc
no false h = refl

-- where y is before x, x is one of the rest
pub rest_has : (x y : Rank) (ys : List Rank) → IsIn (y ∷ ys) x → before y x ≡ true → IsIn ys x
rest_has x y ys among e q all =
    either (q x) (before x x) (before_irreflexive x)
    (among (λ k. q k || before k x) (and_both _ _ (right (q y) _ e) (list_all_mono q (λ k. q k || before k x) (λ k u. left (q k) _ u) ys all)))
  where
    either : (a b : Bool) → b ≡ false → (a || b) ≡ true → a ≡ true
    either true b e h = refl
    either false b e h = sym e ∙ h

    left : (a b : Bool) → a ≡ true → (a || b) ≡ true
    left true b h = refl
    left false b h = cc

    right : (a b : Bool) → b ≡ true → (a || b) ≡ true
    right true b h = refl
    right false b h = h

-- where y, the first of a line in order, isn't before x, x is y
pub is_first : (x y : Rank) (ys : List Rank) → is_in_order (y ∷ ys) ≡ true → IsIn (y ∷ ys) x → before y x ≡ false → x ≡ y
is_first x y ys h among e =
    before_total x y (no _ (among (λ k. not (before k y)) (and_both _ _ (ap not (before_irreflexive y)) (and_left _ _ h)))) e

pub count-without_rank : (x : Rank) (xs : List Rank) → is_in_order xs ≡ true → IsIn xs x → (p : Rank → Bool) → one (p x) + count_by p (without_rank x xs) ≡ count_by p xs
count-without_rank x [] h among p = let k : false ≡ true = among (λ k. false) refl in cc
count-without_rank x (y ∷ ys) h among p =
    by (before y x) refl (λ also. count-without_rank x ys (and_right _ _ h) also p)
  where
    by : (b : Bool) → before y x ≡ b → (IsIn ys x → one (p x) + count_by p (without_rank x ys) ≡ count_by p ys) →
        one (p x) + count_by p (if b then y ∷ without_rank x ys else ys) ≡ count_by p (y ∷ ys)
    by true e rest = omega (arith, rest (rest_has x y ys among e), count-cons p y ys, count-cons p y (without_rank x ys))
    by false e rest = omega (arith, ap (λ k. one (p k)) (is_first x y ys h among e), count-cons p y ys)

-- x, which is one of a line in order, has a place in it
pub place-within : (x : Rank) (xs : List Rank) → is_in_order xs ≡ true → IsIn xs x → place_in x xs < length xs
place-within x [] h among = let k : false ≡ true = among (λ k. false) refl in cc
place-within x (y ∷ ys) h among = by (before y x) refl (λ also. place-within x ys (and_right _ _ h) also)
  where
    by : (b : Bool) → before y x ≡ b → (IsIn ys x → place_in x ys < length ys) → cond (not (not b)) (1 + place_in x ys) 0 < length (y ∷ ys)
    by true e rest = omega (arith, rest (rest_has x y ys among e))
    by false e rest = omega arith

pub moved-within : (x y : Rank) (xs : List Rank) → is_in_order xs ≡ true → IsIn xs x → moved_rank x y xs ≡ with_rank y (without_rank x xs)
moved-within x y xs h among = rw (lt-ltb (place_in x xs) (length xs) (place-within x xs h among)) refl

-- what was put in is taken out again
pub without-with : (x : Rank) (xs : List Rank) → without_rank x (with_rank x xs) ≡ xs
without-with x [] = rw (before_irreflexive x) refl
without-with x (y ∷ ys) = by (before y x) refl (without-with x ys)
  where
    by : (b : Bool) → before y x ≡ b → without_rank x (with_rank x ys) ≡ ys → without_rank x (if b then y ∷ with_rank x ys else x ∷ y ∷ ys) ≡ y ∷ ys
    by true e rest = rw e (ap (λ (zs : List Rank). y ∷ zs) rest)
    by false e rest = rw (before_irreflexive x) refl
