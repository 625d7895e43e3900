-- A number is put among those that are named, which ascend.
use Rattle.std.proofs.Common.{◌≡◌, ◌⊎◌, ◌<◌, ◌≤◌, ◌++◌, ◌&&◌, ◌||◌, ℕ, zero, suc, List, [], ◌∷◌, Bool, true, false, cond, arith, map, length, get_or, refl, sym, ◌∙◌, ap, subst, inl, inr, Some}
use Rattle.std.specs.Prelude.{Option, filter, not, option_to_list, ◌==◌}
use Rattle.std.specs.List.{insert, list_any}
use Rattle.std.proofs.lemmas.List.Folds.{list_any-append}
use Rattle.floor_hub.specs.declared.attached.Live.{Live}
use Rattle.floor_hub.specs.Concerned.{AscendFrom}
use Rattle.floor_hub.specs.steps.Attached.{AddsNames, AreListed, IsIn, IsNaming, Names, cut_at, is_noted, marked, numbers_of}
use Rattle.floor_hub.proofs.Listing.{above, fewer, keys-map, length-changed, length-keys}

-- numbers that ascend rise
pub rises : (j : ℕ) (xs : List ℕ) → AscendFrom j xs → (i k : ℕ) → i ≤ k → k < length xs → get_or xs i 0 ≤ get_or xs k 0
rises j [] up i k l m = absurd (omega arith)
rises j (x ∷ xs) up zero zero l m = omega arith
rises j (x ∷ xs) up zero (suc k) l m = omega (arith, over x xs up.1 k (omega arith))
  where
    over : (j : ℕ) (ys : List ℕ) → AscendFrom j ys → (i : ℕ) → i < length ys → j < get_or ys i 0
    over j [] up i l = absurd (omega arith)
    over j (y ∷ ys) up zero l = up.0
    over j (y ∷ ys) up (suc i) l = omega (arith, up.0, over y ys up.1 i (omega arith))
rises j (x ∷ xs) up (suc i) zero l m = absurd (omega arith)
rises j (x ∷ xs) up (suc i) (suc k) l m = rises x xs up.1 i k (omega arith) (omega arith)

from-here : (j k : ℕ) (xs : List ℕ) → AscendFrom j xs → (0 < length xs → k < get_or xs 0 0) → AscendFrom k xs
from-here j k [] up l = tt
from-here j k (x ∷ xs) up l = (l (omega arith), up.1)

-- a number between those below and those above
pub insert-ascends : (j i x : ℕ) (xs : List ℕ) → AscendFrom j xs → j < x → i ≤ length xs → ((k : ℕ) → k < i → get_or xs k 0 < x) → ((k : ℕ) → i ≤ k → k < length xs → x < get_or xs k 0) →
    AscendFrom j (insert xs i x)
insert-ascends j zero x xs up first l below behind = (first, from-here j x xs up (λ some. behind 0 (omega arith) some))
insert-ascends j (suc i) x [] up first l below behind = absurd (omega arith)
insert-ascends j (suc i) x (y ∷ xs) up first l below behind =
    (up.0, insert-ascends y i x xs up.1 (below 0 (omega arith)) (omega arith) (λ k m. below (suc k) (omega arith)) (λ k m o. behind (suc k) (omega arith) (omega arith)))

pub in-inserted : (i x k : ℕ) (xs : List ℕ) → IsIn (insert xs i x) k → IsIn xs k ⊎ IsIn (x ∷ []) k
in-inserted zero x k xs (inl e) = inr (inl e)
in-inserted zero x k xs (inr h) = inl h
in-inserted (suc i) x k [] (inl e) = inr (inl e)
in-inserted (suc i) x k [] (inr h) = absurd h
in-inserted (suc i) x k (y ∷ xs) (inl e) = inl (inl e)
in-inserted (suc i) x k (y ∷ xs) (inr h) = by (in-inserted i x k xs h)
  where
    by : IsIn xs k ⊎ IsIn (x ∷ []) k → IsIn (y ∷ xs) k ⊎ IsIn (x ∷ []) k
    by (inl e) = inl (inr e)
    by (inr e) = inr e

pub inserted-kept : (i x k : ℕ) (xs : List ℕ) → IsIn xs k → IsIn (insert xs i x) k
inserted-kept zero x k xs h = inr h
inserted-kept (suc i) x k [] h = absurd h
inserted-kept (suc i) x k (y ∷ xs) (inl e) = inl e
inserted-kept (suc i) x k (y ∷ xs) (inr h) = inr (inserted-kept i x k xs h)

inserted-itself : (i x : ℕ) (xs : List ℕ) → IsIn (insert xs i x) x
inserted-itself zero x xs = inl refl
inserted-itself (suc i) x [] = inl refl
inserted-itself (suc i) x (y ∷ xs) = inr (inserted-itself i x xs)

pub adds-inserted : (i x : ℕ) (old new : List ℕ) → new ≡ insert old i x → AddsNames old new (x ∷ [])
adds-inserted i x old new is = subst (λ (z : List ℕ). AddsNames old z (x ∷ [])) (sym is) (record {
  added = λ k h. in-inserted i x k old h;
  kept = λ k h. inserted-kept i x k old h;
  came = λ k h. came k h;
})
  where
    came : (k : ℕ) → IsIn (x ∷ []) k → IsIn (insert old i x) k
    came k (inl e) = subst (IsIn (insert old i x)) e (inserted-itself i x old)
    came k (inr e) = absurd e

-- it stands there already
in-at : (xs : List ℕ) (i x : ℕ) → i < length xs → get_or xs i 0 ≡ x → IsIn xs x
in-at [] i x l e = absurd (omega arith)
in-at (y ∷ xs) zero x l e = inl e
in-at (y ∷ xs) (suc i) x l e = inr (in-at xs i x (omega arith) e)

pub adds-there : (i x : ℕ) (old : List ℕ) → i < length old → get_or old i 0 ≡ x → AddsNames old old (x ∷ [])
adds-there i x old l e = record { added = λ k h. inl h; kept = λ k h. h; came = λ k h. came k h }
  where
    came : (k : ℕ) → IsIn (x ∷ []) k → IsIn old k
    came k (inl w) = subst (IsIn old) w (in-at old i x l e)
    came k (inr w) = absurd w

-- a number that stands nowhere between those below it and those above it isn't there
pub not-in : (j i x : ℕ) (xs : List ℕ) → ((k : ℕ) → k < i → get_or xs k 0 < x) → ((k : ℕ) → i ≤ k → k < length xs → x < get_or xs k 0) → ¬ IsIn xs x
not-in j i x xs below behind h = by xs i below behind h
  where
    by : (ys : List ℕ) (i : ℕ) → ((k : ℕ) → k < i → get_or ys k 0 < x) → ((k : ℕ) → i ≤ k → k < length ys → x < get_or ys k 0) → IsIn ys x → ⊥
    by [] i below behind h = h
    by (y ∷ ys) zero below behind (inl e) = absurd (omega (arith, e, behind 0 (omega arith) (omega arith)))
    by (y ∷ ys) zero below behind (inr h) = by ys zero (λ k m. absurd (omega arith)) (λ k m o. behind (suc k) (omega arith) (omega arith)) h
    by (y ∷ ys) (suc i) below behind (inl e) = absurd (omega (arith, e, below 0 (omega arith)))
    by (y ∷ ys) (suc i) below behind (inr h) = by ys i (λ k m. below (suc k) (omega arith)) (λ k m o. behind (suc k) (omega arith) (omega arith)) h

-- there is room for a number of the list that isn't named yet
pub has-room : (live : List Live) (numbers : List ℕ) (room number : ℕ) → IsNaming live numbers room → IsIn (numbers_of live) number → ¬ IsIn numbers number → length numbers < room
has-room live numbers room number h there none =
    omega (arith, fewer 0 0 number numbers (numbers_of live) h.ascending h.listed.0 h.within there none, length-keys (λ l. l.number) live, h.room)

-- numbers of the list are named besides others
pub naming-more : (live : List Live) (old new more : List ℕ) (room now : ℕ) → IsNaming live old room → AscendFrom 0 new → AddsNames old new more →
    ((k : ℕ) → IsIn more k → IsIn (numbers_of live) k) → room ≤ now → IsNaming live new now
naming-more live old new more room now h up adds of l = record {
  listed = h.listed;
  ascending = up;
  within = λ k i. by k (adds.added k i);
  room = omega (arith, l, h.room);
}
  where
    by : (k : ℕ) → IsIn old k ⊎ IsIn more k → IsIn (numbers_of live) k
    by k (inl i) = h.within k i
    by k (inr i) = of k i

pub naming-same : (live : List Live) (numbers : List ℕ) (room : ℕ) → IsNaming live numbers room → IsNaming live numbers room
naming-same live numbers room h = h

-- a change that leaves the numbers leaves the naming
pub naming-changed : (f : Live → Live) (live after : List Live) (numbers : List ℕ) (room : ℕ) → ((l : Live) → (f l).number ≡ l.number) → ((l : Live) → (f l).n ≡ l.n) → after ≡ map f live →
    IsNaming live numbers room → IsNaming after numbers room
naming-changed f live after numbers room same_number same_n is h = subst (λ (z : List Live). IsNaming z numbers room) (sym is) (record {
  listed = (subst (AscendFrom 0) (sym (keys-map (λ l. l.number) f live same_number)) h.listed.0, subst (AscendFrom 0) (sym (keys-map (λ l. l.n) f live same_n)) h.listed.1);
  ascending = h.ascending;
  within = λ k i. subst (λ (z : List ℕ). IsIn z k) (sym (keys-map (λ l. l.number) f live same_number)) (h.within k i);
  room = omega (arith, length-changed f live, h.room);
})

-- nobody more
pub adds-none : (old more : List ℕ) → more ≡ [] → AddsNames old old more
adds-none old more is = subst (AddsNames old old) (sym is) (record { added = λ k h. inl h; kept = λ k h. h; came = λ k h. absurd h })

-- those who are named and others, and then others
pub adds-both : (old mid new more most all : List ℕ) → AddsNames old mid more → AddsNames mid new most →
    ((k : ℕ) → IsIn more k ⊎ IsIn most k → IsIn all k) → ((k : ℕ) → IsIn all k → IsIn more k ⊎ IsIn most k) → AddsNames old new all
adds-both old mid new more most all a b to from = record {
  added = λ k h. added k (b.added k h);
  kept = λ k h. b.kept k (a.kept k h);
  came = λ k h. came k (from k h);
}
  where
    first : (k : ℕ) → IsIn old k ⊎ IsIn more k → IsIn old k ⊎ IsIn all k
    first k (inl h) = inl h
    first k (inr h) = inr (to k (inl h))

    added : (k : ℕ) → IsIn mid k ⊎ IsIn most k → IsIn old k ⊎ IsIn all k
    added k (inl h) = first k (a.added k h)
    added k (inr h) = inr (to k (inr h))

    came : (k : ℕ) → IsIn more k ⊎ IsIn most k → IsIn new k
    came k (inl h) = b.kept k (a.came k h)
    came k (inr h) = b.came k h

-- those that pass a test that is either of two pass one of them
module _ (p q r : Live → Bool) (is : (l : Live) → r l ≡ (p l || q l)) where
  pub either-to : (live : List Live) (k : ℕ) → IsIn (numbers_of (filter p live)) k ⊎ IsIn (numbers_of (filter q live)) k → IsIn (numbers_of (filter r live)) k
  either-to [] k (inl h) = absurd h
  either-to [] k (inr h) = absurd h
  either-to (l ∷ live) k h = rw (is l) (by (either-to live k) (p l) (q l) h)
    where
      by : (rest : IsIn (numbers_of (filter p live)) k ⊎ IsIn (numbers_of (filter q live)) k → IsIn (numbers_of (filter r live)) k) (a b : Bool) → IsIn (numbers_of (cond a (l ∷ filter p live) (filter p live))) k ⊎ IsIn (numbers_of (cond b (l ∷ filter q live) (filter q live))) k →
          IsIn (numbers_of (cond (a || b) (l ∷ filter r live) (filter r live))) k
      by rest true b (inl (inl e)) = inl e
      by rest true b (inl (inr i)) = inr (rest (inl i))
      by rest true true (inr (inl e)) = inl e
      by rest true true (inr (inr i)) = inr (rest (inr i))
      by rest true false (inr i) = inr (rest (inr i))
      by rest false true (inl i) = inr (rest (inl i))
      by rest false true (inr (inl e)) = inl e
      by rest false true (inr (inr i)) = inr (rest (inr i))
      by rest false false (inl i) = rest (inl i)
      by rest false false (inr i) = rest (inr i)

  pub either-from : (live : List Live) (k : ℕ) → IsIn (numbers_of (filter r live)) k → IsIn (numbers_of (filter p live)) k ⊎ IsIn (numbers_of (filter q live)) k
  either-from [] k h = absurd h
  either-from (l ∷ live) k h = by (either-from live k) (p l) (q l) (rw (is l) at h)
    where
      by : (rest : IsIn (numbers_of (filter r live)) k → IsIn (numbers_of (filter p live)) k ⊎ IsIn (numbers_of (filter q live)) k) (a b : Bool) → IsIn (numbers_of (cond (a || b) (l ∷ filter r live) (filter r live))) k →
          IsIn (numbers_of (cond a (l ∷ filter p live) (filter p live))) k ⊎ IsIn (numbers_of (cond b (l ∷ filter q live) (filter q live))) k
      by rest true true (inl e) = inl (inl e)
      by rest true true (inr i) = elim (rest i) [ inl j ↦ inl (inr j) | inr j ↦ inr (inr j) ]
      by rest true false (inl e) = inl (inl e)
      by rest true false (inr i) = elim (rest i) [ inl j ↦ inl (inr j) | inr j ↦ inr j ]
      by rest false true (inl e) = inr (inl e)
      by rest false true (inr i) = elim (rest i) [ inl j ↦ inl j | inr j ↦ inr (inr j) ]
      by rest false false i = rest i

-- those that pass a test are among the connections
pub filtered-in : (p : Live → Bool) (live : List Live) (k : ℕ) → IsIn (numbers_of (filter p live)) k → IsIn (numbers_of live) k
filtered-in p [] k h = absurd h
filtered-in p (l ∷ live) k h = by (p l) h (filtered-in p live k)
  where
    by : (b : Bool) → IsIn (numbers_of (cond b (l ∷ filter p live) (filter p live))) k → (IsIn (numbers_of (filter p live)) k → IsIn (numbers_of live) k) → IsIn (numbers_of (l ∷ live)) k
    by true (inl e) rest = inl e
    by true (inr i) rest = inr (rest i)
    by false i rest = inr (rest i)

-- where nobody passes
pub filter-none : (p : Live → Bool) (live : List Live) → ((l : Live) → p l ≡ false) → filter p live ≡ []
filter-none p [] h = refl
filter-none p (l ∷ live) h = rw (h l) (filter-none p live h)

-- where everybody does
pub filter-all : (p : Live → Bool) (live : List Live) → ((l : Live) → p l ≡ true) → filter p live ≡ live
filter-all p [] h = refl
filter-all p (l ∷ live) h = rw (h l) (ap (λ (z : List Live). l ∷ z) (filter-all p live h))

-- a test of connections that were changed is one of them as they were
pub filter-changed : (p q : Live → Bool) (f : Live → Live) (live : List Live) → ((l : Live) → p (f l) ≡ q l) → ((l : Live) → (f l).number ≡ l.number) →
    numbers_of (filter p (map f live)) ≡ numbers_of (filter q live)
filter-changed p q f [] h same = refl
filter-changed p q f (l ∷ live) h same = rw (h l) (by (q l) (filter-changed p q f live h same))
  where
    by : (b : Bool) → numbers_of (filter p (map f live)) ≡ numbers_of (filter q live) →
        numbers_of (cond b (f l ∷ filter p (map f live)) (filter p (map f live))) ≡ numbers_of (cond b (l ∷ filter q live) (filter q live))
    by true e = ap (λ (i : ℕ). i ∷ numbers_of (filter p (map f live))) (same l) ∙ ap (λ (z : List ℕ). l.number ∷ z) e
    by false e = e

-- no number is marked
pub marked-none : (live : List Live) → live ≡ map (marked []) live
marked-none [] = refl
marked-none (l ∷ live) =
    ap (λ (c : Bool). record { number = l.number; n = l.n; is_cut = c } ∷ live) (kept l.is_cut) ∙ ap (λ (z : List Live). marked [] l ∷ z) (marked-none live)
  where
    kept : (b : Bool) → b ≡ (b || false)
    kept true = refl
    kept false = refl

-- one more number is marked
pub marked-more : (cut more : List ℕ) (n : ℕ) (live : List Live) → more ≡ cut ++ n ∷ [] → map (cut_at n) (map (marked cut) live) ≡ map (marked more) live
marked-more cut more n live is = by live ∙ ap (λ (z : List ℕ). map (marked z) live) (sym is)
  where
    join : (a b c : Bool) → ((a || b) || c) ≡ (a || (b || (c || false)))
    join true b c = refl
    join false true c = refl
    join false false true = refl
    join false false false = refl

    by : (xs : List Live) → map (cut_at n) (map (marked cut) xs) ≡ map (marked (cut ++ n ∷ [])) xs
    by [] = refl
    by (l ∷ xs) =
        ap (λ (c : Bool). record { number = l.number; n = l.n; is_cut = c } ∷ map (cut_at n) (map (marked cut) xs))
        (join l.is_cut (list_any (λ k. k == l.n) cut) (n == l.n) ∙ ap (λ (b : Bool). l.is_cut || b) (sym (list_any-append (λ k. k == l.n) cut (n ∷ []))))
        ∙ ap (λ (z : List Live). marked (cut ++ n ∷ []) l ∷ z) (by xs)

-- who is one of some numbers, or the next
pub one-of-more : (told more : List ℕ) (n : ℕ) (l : Live) → more ≡ told ++ n ∷ [] → list_any (λ k. k == l.n) more ≡ (list_any (λ k. k == l.n) told || n == l.n)
one-of-more told more n l is = ap (list_any (λ k. k == l.n)) is ∙ list_any-append (λ k. k == l.n) told (n ∷ []) ∙ ap (λ (b : Bool). list_any (λ k. k == l.n) told || b) (kept (n == l.n))
  where
    kept : (b : Bool) → (b || false) ≡ b
    kept true = refl
    kept false = refl

-- who is newly cut by some numbers, or by the next
pub cut-of-more : (cut more : List ℕ) (n : ℕ) (l : Live) → more ≡ cut ++ n ∷ [] →
    (list_any (λ k. k == l.n) more && not l.is_cut) ≡ ((list_any (λ k. k == l.n) cut && not l.is_cut) || (n == l.n && not (l.is_cut || list_any (λ k. k == l.n) cut)))
cut-of-more cut more n l is = ap (λ (b : Bool). b && not l.is_cut) (one-of-more cut more n l is) ∙ by (list_any (λ k. k == l.n) cut) (n == l.n) l.is_cut
  where
    by : (a e f : Bool) → ((a || e) && not f) ≡ ((a && not f) || (e && not (f || a)))
    by true true true = refl
    by true true false = refl
    by true false true = refl
    by true false false = refl
    by false true true = refl
    by false true false = refl
    by false false true = refl
    by false false false = refl

-- those that were added to none are those that pass the test
pub names-of : (numbers : List ℕ) (test : Live → Bool) (live : List Live) → AscendFrom 0 numbers → AddsNames [] numbers (numbers_of (filter test live)) → Names numbers test live
names-of numbers test live up adds = record {
  ascending = up;
  named = λ k h. by k (adds.added k h);
  all = λ k h. adds.came k h;
}
  where
    by : (k : ℕ) → IsIn [] k ⊎ IsIn (numbers_of (filter test live)) k → IsIn (numbers_of (filter test live)) k
    by k (inl h) = absurd h
    by k (inr h) = h

-- the number of a connection that passes a test is one of the list
pub picked : (o : Option ℕ) (number : ℕ) (p : Live → Bool) (live : List Live) → o ≡ Some number → option_to_list o ≡ numbers_of (filter p live) → IsIn (numbers_of live) number
picked o number p live is e = filtered-in p live number (subst (λ (z : List ℕ). IsIn z number) (ap (λ (z : Option ℕ). option_to_list z) (sym is) ∙ e) (inl refl))

-- all numbers that ascend are above what they ascend from
pub over-zero : (number : ℕ) (live : List Live) → AreListed live → IsIn (numbers_of live) number → 0 < number
over-zero number live h i = above 0 number (numbers_of live) h.0 i

-- one number of the list is named besides others
pub naming-one : (live : List Live) (old new : List ℕ) (number room now : ℕ) → IsNaming live old room → AscendFrom 0 new → AddsNames old new (number ∷ []) → IsIn (numbers_of live) number → room ≤ now →
    IsNaming live new now
naming-one live old new number room now h up adds there l = naming-more live old new (number ∷ []) room now h up adds (λ k i. by k i) l
  where
    by : (k : ℕ) → IsIn (number ∷ []) k → IsIn (numbers_of live) k
    by k (inl e) = subst (IsIn (numbers_of live)) e there
    by k (inr e) = absurd e

-- those told something and those newly cut are those that are noted
pub noted-both : (told cut : List ℕ) (live : List Live) (none mid numbers : List ℕ) → none ≡ [] → AscendFrom 0 numbers → AddsNames none mid (numbers_of (filter (λ l. list_any (λ k. k == l.n) told) live)) →
    AddsNames mid numbers (numbers_of (filter (λ l. list_any (λ k. k == l.n) cut && not l.is_cut) live)) → Names numbers (is_noted told cut) live
noted-both told cut live none mid numbers is up a b =
    names-of numbers (is_noted told cut) live up
    (subst (λ (z : List ℕ). AddsNames z numbers (numbers_of (filter (is_noted told cut) live))) is
    (adds-both none mid numbers (numbers_of (filter p live)) (numbers_of (filter q live)) (numbers_of (filter (is_noted told cut) live)) a b
    (λ k h. either-to p q (is_noted told cut) (λ l. refl) live k h) (λ k h. either-from p q (is_noted told cut) (λ l. refl) live k h)))
  where
    p : Live → Bool
    p l = list_any (λ k. k == l.n) told

    q : Live → Bool
    q l = list_any (λ k. k == l.n) cut && not l.is_cut
