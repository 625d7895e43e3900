-- A run in which somebody was ended comes to its Shut.
use Rattle.std.proofs.Common.{◌≡◌, ◌≢◌, ℕ, zero, suc, ◌<◌, ◌≤◌, Bool, true, false, List, [], ◌∷◌, length, get_or, refl, sym, ap, ◌∙◌, arith, subst, inl, inr, nat_eq}
use Rattle.std.specs.Prelude.{◌⊎◌, ◌||◌, Contains, Option, Some, None, max, not, option_map}
use Rattle.std.proofs.lemmas.Bool.Decides.{eqb_tells}
use Rattle.floor_sockets.specs.declared.deadlines.Deadline.{Deadline}
use Rattle.floor_sockets.specs.declared.life.Asked.{Asked}
use Rattle.floor_sockets.specs.declared.life.Asked.TheVariants as asked
use Rattle.floor_sockets.specs.declared.life.Deed.{Deed}
use Rattle.floor_sockets.specs.declared.life.Deed.TheVariants as deed
use Rattle.floor_sockets.specs.declared.life.Life.{Life}
use Rattle.floor_sockets.specs.Life.{at_deadline, deed_of, is_shutting, none_came}
use Rattle.floor_sockets.specs.Sockets.{Changed, IsDueOf, IsTurnOf, Left, Sockets, goes_on, is_there, later, life_at, without}
use Rattle.floor_sockets.specs.Runs.{Does, End, Next, NothingCame, Refused, Shut, Shuts, Time}
use Rattle.floor_sockets.specs.Laws.{IsEarly, WhoIsEndedIsShut, given, have_shut, is_shut}
use Rattle.floor_sockets.specs.steps.Ending.{IsAnswered, IsEnding}
use Rattle.floor_sockets.proofs.Listing.{same_queues}
use Rattle.floor_sockets.proofs.Turning.{not_both}

-- of a list without those of a slot no more is left
without-shorter : (ds : List Deadline) (slot : ℕ) → length (without slot ds) ≤ length ds
without-shorter [] slot = omega arith
without-shorter (d ∷ ds) slot = by (nat_eq d.slot slot) refl (without-shorter ds slot)
  where
    by : (b : Bool) → nat_eq d.slot slot ≡ b → length (without slot ds) ≤ length ds → length (without slot (d ∷ ds)) ≤ length (d ∷ ds)
    by true e h = rw e (omega (arith, h))
    by false e h = rw e (omega (arith, h))

-- and less, where one was the slot's
pub shorter : (ds : List Deadline) (d : Deadline) → Contains ds d → length (without d.slot ds) < length ds
shorter [] d h = absurd (omega (arith, h.1))
shorter (e ∷ ds) d h = by (λ i b is. shorter ds d (i, b, is)) (eqb_tells e.slot d.slot) h.0 h.1 h.2
  where
    behind : (i : ℕ) → suc i < length (e ∷ ds) → i < length ds
    behind i b = omega (arith, b)

    by : ((i : ℕ) → i < length ds → get_or ds i d ≡ d → length (without d.slot ds) < length ds)
        → (((nat_eq e.slot d.slot ≡ true) × (e.slot ≡ d.slot)) ⊎ ((nat_eq e.slot d.slot ≡ false) × (e.slot ≢ d.slot))) → (i : ℕ) → i < length (e ∷ ds) → get_or (e ∷ ds) i d ≡ d
        → length (without d.slot (e ∷ ds)) < length (e ∷ ds)
    by rec (inl u) i b is = let h = without-shorter ds d.slot in rw u.0 (omega (arith, h))
    by rec (inr u) zero b is = absurd (u.1 (ap (λ (z : Deadline). z.slot) is))
    by rec (inr u) (suc i) b is = let h = rec i (behind i b) is in rw u.0 (omega (arith, h))

-- what a Shut does to the time and the deadlines
by_life : (k : ℕ) (old new : Sockets) → Shuts k old new → ((new.time ≡ old.time) × (length new.deadlines ≤ length old.deadlines))
by_life k old new s = by (life_at old k) refl
  where
    left : Left old new → ((new.time ≡ old.time) × (length new.deadlines ≤ length old.deadlines))
    left l = (l.time, (let e = ap (λ (z : List Deadline). length z) l.deadlines in omega (arith, e)))

    by : (o : Option Life) → life_at old k ≡ o → ((new.time ≡ old.time) × (length new.deadlines ≤ length old.deadlines))
    by None e = left (s.none e)
    by (Some m) e = whether (is_shutting m.asked) refl
      where
        whether : (b : Bool) → is_shutting m.asked ≡ b → ((new.time ≡ old.time) × (length new.deadlines ≤ length old.deadlines))
        whether true a =
            let closed = s.took m e a in
            (closed.time, (let f = ap (λ (z : List Deadline). length z) closed.due in let h = without-shorter old.deadlines k in omega (arith, f, h)))
        whether false a = left (s.not_asked m e a)

pub answered_shut : (k slot : ℕ) (b : Bool) (old new : Sockets) → Shuts k old new → b ≡ nat_eq k slot → IsAnswered (deed.Shut k) slot old b new
answered_shut k slot b old new s is = record {
  its = is;
  call = Shut k;
  does = s;
  gave_none = refl;
  time = (by_life k old new s).0;
  fewer = (by_life k old new s).1;
  shut = λ so l there a. free (eqb_tells k slot) so l there a;
}
  where
    free : (((nat_eq k slot ≡ true) × (k ≡ slot)) ⊎ ((nat_eq k slot ≡ false) × (k ≢ slot))) → b ≡ true → (l : Life) → life_at old slot ≡ Some l → is_shutting l.asked ≡ true → life_at new slot ≡ None
    free (inl u) so l there a = ap (λ (z : ℕ). life_at new z) (sym u.1) ∙ (s.took l (ap (λ (z : ℕ). life_at old z) u.1 ∙ there) a).here
    free (inr u) so l there a = not_both (sym so ∙ is ∙ u.0)

pub answered_accept : (k slot : ℕ) (old new : Sockets) → Changed none_came k old.deadlines old new → IsAnswered (deed.Accept k) slot old false new
answered_accept k slot old new ch = record {
  its = refl;
  call = NothingCame k;
  does = ch;
  gave_none = refl;
  time = ch.time;
  fewer = (let e = ap (λ (z : List Deadline). length z) ch.due in omega (arith, e));
  shut = λ so l there a. not_both (sym so);
}

pub answered_other : (done : Deed) (slot : ℕ) (s : Sockets) → is_shut slot (Some done) ≡ false → IsAnswered done slot s false s
answered_other done slot s other = record {
  its = sym other;
  call = Refused;
  does = record { lives = λ k. refl; line = same_queues s.line; deadlines = refl; time = refl; short = refl };
  gave_none = refl;
  time = refl;
  fewer = omega arith;
  shut = λ so l there a. not_both (sym so);
}

-- no deadline is in the future alone
pub not_early : WhoIsEndedIsShut → (slot : ℕ) (s : Sockets) → IsEnding slot s → IsEarly s → ⊥
not_early law slot s i early = not_both (sym (law slot i.life i.calls i.before i.first s i.there i.goes_on i.unshut i.ended i.run i.late early) ∙ i.unheard)

some_is : (x y : Deed) → Some x ≡ Some y → x ≡ y
some_is x y e = cc

-- what is given is due
pub is_due : WhoIsEndedIsShut → (slot : ℕ) (s mid : Sockets) (done : Deed) → IsEnding slot s → (IsDueOf s mid done ⊎ IsTurnOf s mid done) → IsDueOf s mid done
is_due law slot s mid done i (inl due) = due
is_due law slot s mid done i (inr turn) = absurd (not_early law slot s i turn.early)

none_of_three : (a b c : Bool) → a ≡ false → b ≡ false → c ≡ false → (a || (b || c)) ≡ false
none_of_three a b c e f g = rw (e, f, g) refl

-- the run goes on by what was given and its answer
pub still_ending : WhoIsEndedIsShut → (slot : ℕ) (s mid new : Sockets) (done : Deed) → IsEnding slot s → (IsDueOf s mid done ⊎ IsTurnOf s mid done) → IsAnswered done slot mid false new → IsEnding slot new
still_ending law slot s mid new done i gives a =
    let due = is_due law slot s mid done i gives in
    record {
      before = i.before;
      first = i.first;
      life = i.life;
      calls = a.call ∷ Next (Some done) ∷ i.calls;
      there = i.there;
      goes_on = i.goes_on;
      unshut = i.unshut;
      ended = i.ended;
      run = (mid, (s, i.run, gives), a.does);
      late = subst (λ (z : ℕ). later i.before.time 10000000 ≤ z) (sym (a.time ∙ due.changed.time)) i.late;
      unheard = none_of_three (is_shut slot (given a.call)) (is_shut slot (Some done)) (have_shut slot i.calls) (ap (λ (o : Option Deed). is_shut slot o) a.gave_none) (sym a.its) i.unheard;
    }

-- each deadline that is done is one less
pub fewer_due : WhoIsEndedIsShut → (slot : ℕ) (s mid new : Sockets) (done : Deed) (b : Bool) → IsEnding slot s → (IsDueOf s mid done ⊎ IsTurnOf s mid done) → IsAnswered done slot mid b new → length new.deadlines < length s.deadlines
fewer_due law slot s mid new done b i gives a =
    let due = is_due law slot s mid done i gives in
    let one = shorter s.deadlines due.deadline due.stood in
    let left = ap (λ (z : List Deadline). length z) due.changed.due in
    let fewer = a.fewer in
    omega (arith, one, left, fewer)

-- the deed that is the slot's Shut was asked of it
deed_shut : (a : Asked) (k slot : ℕ) (done : Deed) → deed_of a k ≡ Some done → is_shut slot (Some done) ≡ true → ((is_shutting a ≡ true) × (k ≡ slot))
deed_shut asked.Nothing k slot done e f = absurd cc
deed_shut asked.Accept k slot done e f = not_both (sym (ap (λ (z : Deed). is_shut slot (Some z)) (some_is (deed.Accept k) done e) ∙ f))
deed_shut asked.Read k slot done e f = not_both (sym (ap (λ (z : Deed). is_shut slot (Some z)) (some_is (deed.Read k) done e) ∙ f))
deed_shut asked.Serve k slot done e f = not_both (sym (ap (λ (z : Deed). is_shut slot (Some z)) (some_is (deed.Serve k) done e) ∙ f))
deed_shut asked.Write k slot done e f = not_both (sym (ap (λ (z : Deed). is_shut slot (Some z)) (some_is (deed.Write k) done e) ∙ f))
deed_shut asked.Shut k slot done e f = by (eqb_tells k slot)
  where
    by : (((nat_eq k slot ≡ true) × (k ≡ slot)) ⊎ ((nat_eq k slot ≡ false) × (k ≢ slot))) → ((is_shutting asked.Shut ≡ true) × (k ≡ slot))
    by (inl u) = (refl, u.1)
    by (inr u) = not_both (sym (ap (λ (z : Deed). is_shut slot (Some z)) (some_is (deed.Shut k) done e) ∙ f) ∙ u.0)

-- and at its answer the slot is free
pub was_shut : WhoIsEndedIsShut → (slot : ℕ) (s mid new : Sockets) (done : Deed) → IsEnding slot s → (IsDueOf s mid done ⊎ IsTurnOf s mid done) → IsAnswered done slot mid true new → life_at new slot ≡ None
was_shut law slot s mid new done i gives a =
    let due = is_due law slot s mid done i gives in
    let asked_of = deed_shut ((at_deadline due.life).asked) due.deadline.slot slot done due.asked (sym a.its) in
    let here : life_at mid slot ≡ Some (at_deadline due.life) =
    ap (λ (z : ℕ). life_at mid z) (sym asked_of.1) ∙ due.changed.here ∙ ap (λ (z : Option Life). option_map at_deadline z) due.was in
    a.shut refl (at_deadline due.life) here asked_of.0

-- how it begins
pub begins : (slot now : ℕ) (before first s : Sockets) → goes_on (life_at before slot) ≡ true → is_there (life_at before slot) ≡ true → later before.time 10000000 ≤ now → Does (End slot) before first
    → s ≡ record first { time = max first.time now } → IsEnding slot s
begins slot now before first s on there late ended timed = by (life_at before slot) refl on there
  where
    in_time : (a b n : ℕ) → a ≤ n → a ≤ max b n
    in_time a b n h = omega arith

    is_no : (b : Bool) → not b ≡ true → b ≡ false
    is_no false e = refl
    is_no true e = not_both (sym e)

    by : (o : Option Life) → life_at before slot ≡ o → goes_on o ≡ true → is_there o ≡ true → IsEnding slot s
    by None e f g = not_both (sym f)
    by (Some l) e f g = record {
      before = before;
      first = first;
      life = l;
      calls = Time now ∷ [];
      there = e;
      goes_on = is_no l.is_over f;
      unshut = is_no (is_shutting l.asked) g;
      ended = ended;
      run = (first, refl, timed);
      late = subst (λ (z : Sockets). later before.time 10000000 ≤ z.time) (sym timed) (in_time (later before.time 10000000) first.time now late);
      unheard = refl;
    }
