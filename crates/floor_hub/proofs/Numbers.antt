-- The numbers of arrivals can't run out.
use Rattle.std.proofs.Common.{◌≡◌, ℕ, zero, suc, ◌+◌, ◌*◌, ◌≤◌, Bool, true, false, cond, List, [], ◌∷◌, length, refl, sym, ◌∙◌, ap, subst, arith, length-append, Some, None}
use Rattle.std.specs.Prelude.{Option, ◌==◌, nat_lt, nat_eq}
use Rattle.std.specs.Map.{update}
use Rattle.std.proofs.lemmas.Bool.{eqb-true, eqb-false, eq-eqb}
use Rattle.std.proofs.lemmas.Bool.Decides.{nat_tests}
use Rattle.std.proofs.lemmas.List.Sums.{count_by-le-length}
use Rattle.std.proofs.lemmas.Map.{update_here, update_apart}
use Rattle.std.proofs.lemmas.Option.{none-some}
use Rattle.floor_hub.specs.declared.step.Step.{Step}
use Rattle.floor_hub.specs.declared.step.Step.TheVariants.{Open, Attach, Piece, Serve, Took, Leave, Admin, Say}
use Rattle.floor_hub.specs.World.{Aim, Part, Place, World, aim, aimed, offer, place, turn_at}
use Rattle.floor_hub.specs.Kept.{IsNumbered, KeptIn, arrivals_in, first_numbers, is_join, numbers_of}
use Rattle.floor_hub.specs.Laws.{ArrivalsFit, OpensNumbered, StepNumbers}
use Rattle.floor_hub.proofs.Alone.{IsAim, IsFor, aims}

-- how many of these places are of conferences below n
abbrev below : ℕ → List Place → ℕ
below n [] = 0
below n (q ∷ qs) = cond (nat_lt q.conference n) (suc (below n qs)) (below n qs)

not_below : (a : ℕ) → nat_lt a 0 ≡ false
not_below a = grind (arith, nat_tests)

below_zero : (ps : List Place) → below 0 ps ≡ 0
below_zero [] = refl
below_zero (q ∷ qs) = rw (not_below q.conference) (below_zero qs)

less : (a n : ℕ) → nat_lt a n ≡ true → (nat_lt a (suc n) ≡ true) × ((a == n) ≡ false)
less a n h = (grind (arith, nat_tests), grind (arith, nat_tests))

least : (a n : ℕ) → nat_lt a n ≡ false → nat_lt a (suc n) ≡ (a == n)
least a n h = grind (arith, nat_tests)

-- those of the conference n are next
below_more : (n : ℕ) (ps : List Place) → below (suc n) ps ≡ below n ps + length (numbers_of n ps)
below_more n [] = refl
below_more n (q ∷ qs) = by (nat_lt q.conference n) refl (below_more n qs)
  where
    one : (t : Bool) → below (suc n) qs ≡ below n qs + length (numbers_of n qs) →
        cond t (suc (below (suc n) qs)) (below (suc n) qs) ≡ below n qs + length (cond t (q.n ∷ numbers_of n qs) (numbers_of n qs))
    one true h = omega (arith, h)
    one false h = h

    by : (t : Bool) → nat_lt q.conference n ≡ t → below (suc n) qs ≡ below n qs + length (numbers_of n qs) → below (suc n) (q ∷ qs) ≡ below n (q ∷ qs) + length (numbers_of n (q ∷ qs))
    by true e h = let is = less q.conference n e in rw (e, is.0, is.1) (omega (arith, h))
    by false e h = rw (e, least q.conference n e) (one (q.conference == n) h)

-- so there are at most so many for each
below_few : (n : ℕ) (ps : List Place) → ((c : ℕ) → length (numbers_of c ps) ≤ 2000000) → below n ps ≤ n * 2000000
below_few zero ps few = omega (arith, below_zero ps)
below_few (suc n) ps few = omega (arith, below_few n ps few, below_more n ps, few n)

-- where no place is of a conference from n on, all are below
all_below : (n : ℕ) (ps : List Place) → ((c : ℕ) → n ≤ c → numbers_of c ps ≡ []) → length ps ≡ below n ps
all_below n [] none = refl
all_below n (q ∷ qs) none = by (nat_lt q.conference n) refl (all_below n qs (λ c h. behind (q.conference == c) q.n (numbers_of c qs) (none c h)))
  where
    behind : (t : Bool) (k : ℕ) (ks : List ℕ) → cond t (k ∷ ks) ks ≡ [] → ks ≡ []
    behind true k ks e = cc
    behind false k ks e = e

    above : (a n : ℕ) → nat_lt a n ≡ false → n ≤ a
    above a n h = grind (arith, nat_tests)

    here : (t : Bool) (k : ℕ) (ks : List ℕ) → t ≡ true → cond t (k ∷ ks) ks ≡ [] → ⊥
    here true k ks e h = cc
    here false k ks e h = cc

    by : (t : Bool) → nat_lt q.conference n ≡ t → length qs ≡ below n qs → length (q ∷ qs) ≡ below n (q ∷ qs)
    by true e h = rw e (ap suc h)
    by false e h = absurd (here (q.conference == q.conference) q.n (numbers_of q.conference qs) (eq-eqb q.conference q.conference refl) (none q.conference (above q.conference n e)))

length_first : (k : ℕ) → length (first_numbers k) ≡ k
length_first zero = refl
length_first (suc k) = omega (arith, length_first k, length-append (first_numbers k) (suc k ∷ []))

few_arrivals : (z : Option Part) → KeptIn z → arrivals_in z ≤ 2000000
few_arrivals None k = omega arith
few_arrivals (Some p) k = omega (arith, k.joins, count_by-le-length is_join p.events, k.journal.count)

none_opened : (z : Option Part) (c : ℕ) → ((p : Part) → z ≡ Some p → c ≤ 4294967295) → 4294967296 ≤ c → arrivals_in z ≡ 0
none_opened None c h above = refl
none_opened (Some p) c h above = absurd (omega (arith, h p refl))

pub places_fit : ArrivalsFit
places_fit w k numbered =
    omega (
      arith,
      all_below 4294967296 w.places (λ c h. k.places c ∙ ap first_numbers (none_opened (w.parts c) c (numbered c) h)),
      below_few 4294967296 w.places (λ c. omega (arith, ap length (k.places c), length_first (arrivals_in (w.parts c)), few_arrivals (w.parts c) (k.parts c))),
    )

-- what a step for the conference c opens has its number
opens : (c : ℕ) (z : Option Part) (s : Step) (p : Part) → IsFor c s → OpensNumbered s → ((q : Part) → z ≡ Some q → c ≤ 4294967295) → (offer z s).part ≡ Some p → c ≤ 4294967295
opens c (Some q) s p own bears h e = h q refl
opens c None (Open config) p own bears h e = subst (λ (i : ℕ). i ≤ 4294967295) own bears
opens c None (Attach d user) p own bears h e = absurd (none-some p e)
opens c None (Piece n bytes) p own bears h e = absurd (none-some p e)
opens c None (Serve n) p own bears h e = absurd (none-some p e)
opens c None (Took n k) p own bears h e = absurd (none-some p e)
opens c None (Leave n) p own bears h e = absurd (none-some p e)
opens c None (Admin d act) p own bears h e = absurd (none-some p e)
opens c None (Say d user bytes) p own bears h e = absurd (none-some p e)

abbrev Bears : Option Aim → Type 0
Bears None = Unit {0}
Bears (Some a) = OpensNumbered a.step

bears : (w : World) (s : Step) → OpensNumbered s → Bears (aimed w s)
bears w (Open config) h = h
bears w (Attach c user) h = tt
bears w (Piece number bytes) h = by (place w.places number)
  where
    by : (p : Option Place) → Bears (aim (λ n. Piece n bytes) p)
    by None = tt
    by (Some p) = tt
bears w (Serve number) h = by (place w.places number)
  where
    by : (p : Option Place) → Bears (aim Serve p)
    by None = tt
    by (Some p) = tt
bears w (Took number k) h = by (place w.places number)
  where
    by : (p : Option Place) → Bears (aim (λ n. Took n k) p)
    by None = tt
    by (Some p) = tt
bears w (Leave number) h = by (place w.places number)
  where
    by : (p : Option Place) → Bears (aim Leave p)
    by None = tt
    by (Some p) = tt
bears w (Admin c act) h = tt
bears w (Say c user bytes) h = tt

numbered_at : (w : World) (x : Option Aim) → IsAim x → Bears x → IsNumbered w → IsNumbered (turn_at w x).world
numbered_at w None own h numbered = numbered
numbered_at w (Some a) own h numbered = λ c p e. by c p (a.conference == c) refl e
  where
    by : (c : ℕ) (p : Part) (t : Bool) → (a.conference == c) ≡ t → update nat_eq w.parts a.conference (offer (w.parts a.conference) a.step).part c ≡ Some p → c ≤ 4294967295
    by c p true t e =
        let same : a.conference ≡ c = eqb-true a.conference c t in
        subst (λ (i : ℕ). i ≤ 4294967295) same
        (opens a.conference (w.parts a.conference) a.step p own h (numbered a.conference)
        (sym (update_here w.parts a.conference (offer (w.parts a.conference) a.step).part) ∙ ap (update nat_eq w.parts a.conference (offer (w.parts a.conference) a.step).part) same ∙ e))
    by c p false t e =
        numbered c p (sym (update_apart w.parts a.conference (offer (w.parts a.conference) a.step).part c (λ x. eqb-false a.conference c t (sym x))) ∙ e)

pub numbered_turn : StepNumbers
numbered_turn w s h numbered = numbered_at w (aimed w s) (aims w s) (bears w s h) numbered
