-- A connection is found by the number of its member, by halves.
use Rattle.std.proofs.Common.{◌≡◌, ◌≢◌, ◌<◌, ◌≤◌, ◌&&◌, ◌||◌, ℕ, zero, suc, List, [], ◌∷◌, Bool, true, false, cond, arith, map, length, get_or, refl, sym, ◌∙◌, ap, subst, add-one}
use Rattle.std.specs.Prelude.{filter, nat_lt, ◌==◌}
use Rattle.std.specs.List.{slice_set}
use Rattle.std.specs.List.Sorted.{IsNonDecreasingBy, IsPartitionedBy}
use Rattle.std.proofs.lemmas.Bool.{ltb-false, ltb-true}
use Rattle.std.proofs.lemmas.Bool.Decides.{nat_tests}
use Rattle.std.proofs.lemmas.List.{get_or_default}
use Rattle.std.proofs.lemmas.List.Sorted.{IsNonDecreasingBy-from_all_adjacent, IsPartitionedBy-ltb}
use Rattle.floor_hub.specs.declared.attached.Live.{Live}
use Rattle.floor_hub.specs.Concerned.{AscendFrom}
use Rattle.floor_hub.specs.steps.Attached.{cut_at, members_of}

-- each of these is below the next
adjacent : (j : ℕ) (live : List Live) → AscendFrom j (members_of live) → (k : ℕ) (d : Live) → suc k < length live → (get_or live k d).n ≤ (get_or live (suc k) d).n
adjacent j [] up k d l = absurd (omega arith)
adjacent j (x ∷ []) up k d l = absurd (omega arith)
adjacent j (x ∷ y ∷ live) up zero d l = omega (arith, up.1.0)
adjacent j (x ∷ y ∷ live) up (suc k) d l = adjacent x.n (y ∷ live) up.1 k d (omega arith)

rising : (live : List Live) → AscendFrom 0 (members_of live) → IsNonDecreasingBy (λ l. l.n) live
rising live up = IsNonDecreasingBy-from_all_adjacent (λ l. l.n) live (λ k d l. subst (λ (i : ℕ). (get_or live k d).n ≤ (get_or live i d).n) (sym (add-one k)) (adjacent 0 live up k d (omega (arith, l))))

pub parted : (n : ℕ) (live : List Live) → AscendFrom 0 (members_of live) → IsPartitionedBy (λ l. nat_lt l.n n) live
parted n live up = IsPartitionedBy-ltb (λ l. l.n) live n (rising live up)

-- all are above what they ascend from
over : (j : ℕ) (live : List Live) (i : ℕ) (d : Live) → AscendFrom j (members_of live) → i < length live → j < (get_or live i d).n
over j [] i d up l = absurd (omega arith)
over j (x ∷ live) zero d up l = up.0
over j (x ∷ live) (suc i) d up l = omega (arith, up.0, over x.n live i d up.1 (omega arith))

-- whoever stands further behind is above
rises : (j : ℕ) (live : List Live) (i k : ℕ) (d : Live) → AscendFrom j (members_of live) → i < k → k < length live → (get_or live i d).n < (get_or live k d).n
rises j [] i k d up l m = absurd (omega arith)
rises j (x ∷ live) i zero d up l m = absurd (omega arith)
rises j (x ∷ live) zero (suc k) d up l m = over x.n live k d up.1 (omega arith)
rises j (x ∷ live) (suc i) (suc k) d up l m = rises x.n live i k d up.1 (omega arith) (omega arith)

differs : (n m : ℕ) → n ≢ m → (n == m) ≡ false
differs n m h = grind (arith, nat_tests)

agrees : (n m : ℕ) → n ≡ m → (n == m) ≡ true
agrees n m h = grind (arith, nat_tests)

-- where none is of the member, none passes its test
none-at : (n : ℕ) (live : List Live) → ((i : ℕ) (d : Live) → i < length live → (get_or live i d).n ≢ n) → filter (λ l. n == l.n) live ≡ []
none-at n [] h = refl
none-at n (l ∷ live) h = rw (differs n l.n (λ e. h 0 l (omega arith) (sym e))) (none-at n live (λ i d m. h (suc i) d (omega arith)))

-- it is none where the first that isn't below is another's
pub none-found : (n place : ℕ) (live : List Live) → AscendFrom 0 (members_of live) → ((i : ℕ) (d : Live) → i < place → i < length live → nat_lt (get_or live i d).n n ≡ true) →
    ((i : ℕ) (d : Live) → place ≤ i → i < length live → nat_lt (get_or live i d).n n ≡ false) → ((d : Live) → place < length live → (get_or live place d).n ≢ n) →
    filter (λ l. n == l.n) live ≡ []
none-found n place live up below behind other = none-at n live (λ i d m e. apart i d m e (nat_lt i place) refl)
  where
    further : (i : ℕ) (d : Live) → place ≤ i → i < length live → (get_or live i d).n ≡ n → (b : Bool) → nat_lt place i ≡ b → ⊥
    further i d l m e true t =
        let first : n ≤ (get_or live place d).n = ltb-false (get_or live place d).n n (behind place d (omega arith) (omega (arith, l, m))) in
        absurd (omega (arith, e, first, rises 0 live place i d up (ltb-true place i t) m))
    further i d l m e false t =
        let same : i ≡ place = omega (arith, l, ltb-false place i t) in
        other d (omega (arith, m, same)) (ap (λ (k : ℕ). (get_or live k d).n) (sym same) ∙ e)

    apart : (i : ℕ) (d : Live) → i < length live → (get_or live i d).n ≡ n → (b : Bool) → nat_lt i place ≡ b → ⊥
    apart i d m e true t = absurd (omega (arith, e, ltb-true (get_or live i d).n n (below i d (ltb-true i place t) m)))
    apart i d m e false t = further i d (ltb-false i place t) m e (nat_lt place i) refl

-- whoever is above n isn't n
pub none-above : (n j : ℕ) (live : List Live) → AscendFrom j (members_of live) → n ≤ j → filter (λ l. n == l.n) live ≡ []
none-above n j [] up l = refl
none-above n j (x ∷ live) up l = rw (differs n x.n (λ e. absurd (omega (arith, e, l, up.0)))) (none-above n x.n live up.1 (omega (arith, l, up.0)))

-- the one that is of the member is the only one
pub one-found : (n j place : ℕ) (live : List Live) (d : Live) → AscendFrom j (members_of live) → place < length live → (get_or live place d).n ≡ n → filter (λ l. n == l.n) live ≡ get_or live place d ∷ []
one-found n j place [] d up l e = absurd (omega arith)
one-found n j zero (x ∷ live) d up l e =
    rw (agrees n x.n (sym e)) (ap (λ (z : List Live). x ∷ z) (none-above n x.n live up.1 (omega (arith, e))))
one-found n j (suc i) (x ∷ live) d up l e =
    rw (differs n x.n (λ w. absurd (omega (arith, w, e, over x.n live i d up.1 (omega arith))))) (one-found n x.n i live d up.1 (omega arith) e)

-- those that pass two tests pass the second among those that pass the first
pub filter-both : (p q : Live → Bool) (live : List Live) → filter (λ l. p l && q l) live ≡ filter q (filter p live)
filter-both p q [] = refl
filter-both p q (l ∷ live) = by (p l) (q l) refl (filter-both p q live)
  where
    by : (a b : Bool) → q l ≡ b → filter (λ x. p x && q x) live ≡ filter q (filter p live) →
        cond (a && b) (l ∷ filter (λ x. p x && q x) live) (filter (λ x. p x && q x) live) ≡ filter q (cond a (l ∷ filter p live) (filter p live))
    by true true e h = rw e (ap (λ (z : List Live). l ∷ z) h)
    by true false e h = rw e h
    by false b e h = h

-- where none is of the member, nobody changes
pub none-changed : (n : ℕ) (live : List Live) → filter (λ l. n == l.n) live ≡ [] → live ≡ map (cut_at n) live
none-changed n [] h = refl
none-changed n (l ∷ live) h = by (n == l.n) refl h (none-changed n live)
  where
    kept : (b : Bool) → l.is_cut ≡ b → (b || false) ≡ b
    kept true e = refl
    kept false e = refl

    cons : (x : Live) (xs : List Live) → ◌≡◌ {A = List Live} (x ∷ xs) [] → ⊥
    cons x xs e = cc

    by : (b : Bool) → (n == l.n) ≡ b → cond b (l ∷ filter (λ x. n == x.n) live) (filter (λ x. n == x.n) live) ≡ [] → (filter (λ x. n == x.n) live ≡ [] → live ≡ map (cut_at n) live) →
        l ∷ live ≡ map (cut_at n) (l ∷ live)
    by true e h rest = absurd (cons l (filter (λ x. n == x.n) live) h)
    by false e h rest =
        ap (λ (z : List Live). l ∷ z) (rest h)
        ∙ ap (λ (c : Bool). record { number = l.number; n = l.n; is_cut = c } ∷ map (cut_at n) live) (sym (ap (λ (t : Bool). l.is_cut || t) e ∙ kept l.is_cut refl))

-- the one that is of the member changes, and nobody else
pub one-changed : (n j place : ℕ) (live : List Live) (d new : Live) → AscendFrom j (members_of live) → place < length live → (get_or live place d).n ≡ n → new ≡ cut_at n (get_or live place d) →
    slice_set live place new ≡ map (cut_at n) live
one-changed n j place [] d new up l e is = absurd (omega arith)
one-changed n j zero (x ∷ live) d new up l e is =
    ap (λ (z : Live). z ∷ live) is ∙ ap (λ (z : List Live). cut_at n x ∷ z) (none-changed n live (none-above n x.n live up.1 (omega (arith, e))))
one-changed n j (suc i) (x ∷ live) d new up l e is =
    ap (λ (z : List Live). x ∷ z) (one-changed n x.n i live d new up.1 (omega arith) e is)
    ∙ ap (λ (c : Bool). record { number = x.number; n = x.n; is_cut = c } ∷ map (cut_at n) live)
    (sym (ap (λ (t : Bool). x.is_cut || t) (differs n x.n (λ w. absurd (omega (arith, w, e, over x.n live i d up.1 (omega arith))))) ∙ kept x.is_cut))
  where
    kept : (b : Bool) → (b || false) ≡ b
    kept true = refl
    kept false = refl

-- another's number stands at the place
pub other-there : (live : List Live) (place n : ℕ) (d e : Live) → place < length live → (get_or live place e).n ≢ n → (get_or live place d).n ≡ n → ⊥
other-there live place n d e within other same = other (ap (λ (l : Live). l.n) (sym (get_or_default live place d e within)) ∙ same)
