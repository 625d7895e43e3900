-- What stays as it is of somebody at a door who says nothing, over calls.
use Rattle.std.proofs.Common.{◌≡◌, ◌≢◌, ℕ, ◌≤◌, Bool, true, false, cond, List, [], ◌∷◌, refl, sym, ap, ◌∙◌, arith, subst, inl, inr, nat_eq}
use Rattle.std.specs.Prelude.{◌⊎◌, ◌&&◌, ◌||◌, Contains, Option, Some, None, max, nat_le, nat_lt, not}
use Rattle.std.proofs.lemmas.Bool.Decides.{eqb_tells}
use Rattle.std.proofs.lemmas.List.Elements.{Contains-push}
use Rattle.floor_sockets.specs.declared.deadlines.Deadline.{Deadline}
use Rattle.floor_sockets.specs.declared.life.Asked.{Asked}
use Rattle.floor_sockets.specs.declared.life.Asked.TheVariants as asked
use Rattle.floor_sockets.specs.declared.life.Deed.{Deed}
use Rattle.floor_sockets.specs.declared.life.Deed.TheVariants as deed
use Rattle.floor_sockets.specs.declared.life.Life.{Life}
use Rattle.floor_sockets.specs.declared.role.Role.{Role}
use Rattle.floor_sockets.specs.declared.role.Role.TheVariants as role
use Rattle.floor_sockets.specs.Life.{at_accept, at_deadline, came, deed_of, due_of, held, is_accepting, is_shutting, lent, next_asked, next_behind, none_came, one_came, opened, over, put_off, reading, served, taken, unblocked, worded}
use Rattle.floor_sockets.specs.Sockets.{Sockets, accepts, is_at_door, later, life_at, renamed_due, renamed_life, with_due, without}
use Rattle.floor_sockets.specs.Runs.{Accepted, BecomeRole, Call, Calls, Came, Does, End, Fail, Hold, Lend, Next, NothingCame, Open, Readable, Refused, Served, Shut, Time, Took, Unaccepted, Writable}
use Rattle.floor_sockets.specs.Laws.{IsEarly, has_left, have_left, is_shut}
use Rattle.floor_sockets.proofs.Running.{Has, Shutting, Waits, at_same, changed_has, changed_waits, closes, come_at_last, keep_accept, keep_read, keep_serve, keep_write, left_has, left_waits, neither, opens_has, opens_other, other_waits, own_waits, renamed_stays, rests_has, rests_waits, shut_has, shuts, some_one, stays, turn_has, waits_on}
use Rattle.floor_sockets.proofs.Timing.{stays_with, stays_without}
use Rattle.floor_sockets.proofs.Turning.{eq_yes, not_both}

-- it is neither shut nor accepts
abbrev pub may_read : Asked → Bool
may_read asked.Nothing = true
may_read asked.Accept = false
may_read asked.Read = true
may_read asked.Serve = true
may_read asked.Write = true
may_read asked.Shut = false

pub record IsSilent (l : Life) : Type 0 where
  pub role : is_at_door l.role ≡ true
  pub asked : may_read l.asked ≡ true

unshut : (a : Asked) → may_read a ≡ true → is_shutting a ≡ false
unshut asked.Nothing e = refl
unshut asked.Accept e = refl
unshut asked.Read e = refl
unshut asked.Serve e = refl
unshut asked.Write e = refl
unshut asked.Shut e = not_both (sym e)

unaccepting : (a : Asked) → may_read a ≡ true → is_accepting a ≡ false
unaccepting asked.Nothing e = refl
unaccepting asked.Accept e = not_both (sym e)
unaccepting asked.Read e = refl
unaccepting asked.Serve e = refl
unaccepting asked.Write e = refl
unaccepting asked.Shut e = refl

silent_done : (l : Life) → is_at_door l.role ≡ true → IsSilent (record l { asked = asked.Nothing })
silent_done l e = record { role = e; asked = refl }

-- what is asked of it next
either_may : (b : Bool) (x y : Asked) → may_read x ≡ true → may_read y ≡ true → may_read (cond b x y) ≡ true
either_may true x y e f = e
either_may false x y e f = f

behind_may : (a n : Asked) → may_read n ≡ true → may_read (next_behind a n) ≡ true
behind_may asked.Nothing n e = e
behind_may asked.Accept n e = refl
behind_may asked.Read n e = refl
behind_may asked.Serve n e = refl
behind_may asked.Write n e = refl
behind_may asked.Shut n e = refl

door_reads : (q : Role) → is_at_door q ≡ true → may_read (reading q) ≡ true
door_reads role.Listener e = not_both (sym e)
door_reads role.Member e = refl
door_reads role.AtDoor e = refl
door_reads role.MemberByDoor e = refl
door_reads role.Control e = refl
door_reads role.Observer e = refl
door_reads role.Console e = refl
door_reads role.Probe e = refl
door_reads role.Http e = refl

silent_next : (a : Asked) (b w o h m r : Bool) (q : Role) → is_at_door q ≡ true
    → may_read (next_behind a (cond (b && not w) asked.Write (cond (o || h) asked.Nothing (cond m asked.Serve (cond (not r) asked.Nothing (reading q)))))) ≡ true
silent_next a b w o h m r q e =
    behind_may a (cond (b && not w) asked.Write (cond (o || h) asked.Nothing (cond m asked.Serve (cond (not r) asked.Nothing (reading q)))))
    (either_may (b && not w) asked.Write (cond (o || h) asked.Nothing (cond m asked.Serve (cond (not r) asked.Nothing (reading q)))) refl
    (either_may (o || h) asked.Nothing (cond m asked.Serve (cond (not r) asked.Nothing (reading q))) refl
    (either_may m asked.Serve (cond (not r) asked.Nothing (reading q)) refl
    (either_may (not r) asked.Nothing (reading q) refl (door_reads q e)))))

silent_asked : (l : Life) → IsSilent l → IsSilent (record l { asked = next_asked l })
silent_asked l i = record { role = i.role; asked = silent_next l.asked l.has_bytes l.is_blocked l.is_over l.is_held l.has_more l.is_readable l.role i.role }

-- its deadline brings its Shut
silent_due : (l : Life) (k slot : ℕ) (done : Deed) → k ≡ slot → is_at_door l.role ≡ true → deed_of ((at_deadline l).asked) k ≡ Some done → is_shut slot (Some done) ≡ true
silent_due l k slot done same e = by l.role e
  where
    some_is : (x y : Deed) → Some x ≡ Some y → x ≡ y
    some_is x y f = cc

    shut : Some (deed.Shut k) ≡ Some done → is_shut slot (Some done) ≡ true
    shut f = subst (λ (z : Deed). is_shut slot (Some z) ≡ true) (some_is (deed.Shut k) done f) (eq_yes k slot same)

    by : (r : Role) → is_at_door r ≡ true → deed_of ((due_of r l).asked) k ≡ Some done → is_shut slot (Some done) ≡ true
    by role.Listener f = not_both (sym f)
    by role.Member f = shut
    by role.AtDoor f = shut
    by role.MemberByDoor f = shut
    by role.Control f = shut
    by role.Observer f = shut
    by role.Console f = shut
    by role.Probe f = shut
    by role.Http f = shut

-- who is at a door is there still, but where it has left
silent_step : (slot : ℕ) (c : Call) (old new : Sockets) → Does c old new → has_left slot c ≡ false → Has IsSilent slot old → Has IsSilent slot new
silent_step slot (Time now) old new does unlike h = record { life = h.life; there = ap (λ (s : Sockets). life_at s slot) does ∙ h.there; holds = h.holds }
silent_step slot (Open role group k) old new does unlike h = opens_has IsSilent role group k slot old new does h
silent_step slot (Readable k ends) old new does unlike h = changed_has IsSilent (worded ends) k slot _ old new does (λ e l i. record { role = i.role; asked = i.asked }) h
silent_step slot (Writable k) old new does unlike h = changed_has IsSilent unblocked k slot _ old new does (λ e l i. record { role = i.role; asked = i.asked }) h
silent_step slot (Lend k b) old new does unlike h = changed_has IsSilent (lent b) k slot _ old new does (λ e l i. record { role = i.role; asked = i.asked }) h
silent_step slot (Hold k b) old new does unlike h = changed_has IsSilent (held b) k slot _ old new does (λ e l i. record { role = i.role; asked = i.asked }) h
silent_step slot (BecomeRole k role group) old new does unlike h = changed_has IsSilent (renamed_life role group) k slot _ old new does (λ e l i. not_both (sym e ∙ unlike)) h
silent_step slot (Came k count b) old new does unlike h =
    changed_has IsSilent (came count b) k slot _ old new does
    (λ e l i.
    keep_read IsSilent l.asked (record l { is_readable = l.ends || nat_le 4096 count; has_more = b; asked = asked.Nothing }) l (λ f. silent_done (record l { is_readable = l.ends || nat_le 4096 count; has_more = b }) i.role) i) h
silent_step slot (NothingCame k) old new does unlike h =
    changed_has IsSilent none_came k slot _ old new does
    (λ e l i.
    keep_read IsSilent l.asked (record l { is_readable = false; asked = asked.Nothing }) (at_accept l.asked (record l { is_readable = false; asked = asked.Nothing }) l) (λ f. silent_done (record l { is_readable = false }) i.role)
    (keep_accept IsSilent l.asked (record l { is_readable = false; asked = asked.Nothing }) l (λ f. silent_done (record l { is_readable = false }) i.role) i)) h
silent_step slot (Accepted k) old new does unlike h = changed_has IsSilent one_came k slot _ old new does (λ e l i. keep_accept IsSilent l.asked (record l { asked = asked.Nothing }) l (λ f. silent_done l i.role) i) h
silent_step slot (Unaccepted k) old new does unlike h =
    changed_has IsSilent put_off k slot _ old new does (λ e l i. keep_accept IsSilent l.asked (record l { is_held = true; asked = asked.Nothing }) l (λ f. silent_done (record l { is_held = true }) i.role) i) h
silent_step slot (Served k b) old new does unlike h =
    changed_has IsSilent (served b) k slot _ old new does (λ e l i. keep_serve IsSilent l.asked (record l { has_more = b; asked = asked.Nothing }) l (λ f. silent_done (record l { has_more = b }) i.role) i) h
silent_step slot (Took k count of_lent) old new does unlike h =
    changed_has IsSilent (taken count of_lent) k slot _ old new does
    (λ e l i.
    keep_write IsSilent l.asked (record l { is_blocked = nat_lt count of_lent; has_bytes = nat_lt count of_lent; asked = asked.Nothing }) l
    (λ f. silent_done (record l { is_blocked = nat_lt count of_lent; has_bytes = nat_lt count of_lent }) i.role) i) h
silent_step slot (End k) old new does unlike h = changed_has IsSilent over k slot _ old new does (λ e l i. not_both (sym e ∙ unlike)) h
silent_step slot (Fail k) old new does unlike h = changed_has IsSilent over k slot _ old new does (λ e l i. not_both (sym e ∙ unlike)) h
silent_step slot (Shut k) old new does unlike h = shut_has IsSilent slot k old new (shuts k slot old new h.life does h.there (λ e. unshut h.life.asked h.holds.asked)) h
silent_step slot (Next (Some done)) old new (inl due) unlike h = by (eqb_tells due.deadline.slot slot)
  where
    by : (((nat_eq due.deadline.slot slot ≡ true) × (due.deadline.slot ≡ slot)) ⊎ ((nat_eq due.deadline.slot slot ≡ false) × (due.deadline.slot ≢ slot))) → Has IsSilent slot new
    by (inl u) =
        let same = some_one (life_at old slot) due.life h.life (ap (λ (z : ℕ). life_at old z) (sym u.1) ∙ due.was) h.there in
        not_both (sym (silent_due due.life due.deadline.slot slot done u.1 (ap (λ (z : Life). is_at_door z.role) same ∙ h.holds.role) due.asked) ∙ unlike)
    by (inr u) = record { life = h.life; there = due.changed.others slot u.0 ∙ h.there; holds = h.holds }
silent_step slot (Next (Some done)) old new (inr turn) unlike h = turn_has IsSilent slot old new done turn (λ l i. silent_asked l i) h
silent_step slot (Next None) old new does unlike h = rests_has IsSilent slot old new does.1 h
silent_step slot Refused old new does unlike h = left_has IsSilent slot old new does h

-- and its deadline stands
silent_waits : (slot until : ℕ) (c : Call) (old new : Sockets) → Does c old new → has_left slot c ≡ false → Has IsSilent slot old → Waits slot until old → Waits slot until new
silent_waits slot until (Time now) old new does unlike h w = record {
  deadline = w.deadline;
  stands = subst (λ (z : Sockets). Contains z.deadlines w.deadline) (sym does) w.stands;
  its = w.its;
  soon = later_still w.deadline.until until old.time now new.time w.soon (ap (λ (z : Sockets). z.time) does);
}
  where
    later_still : (d u t n s : ℕ) → d ≤ max u t → s ≡ max t n → d ≤ max u s
    later_still d u t n s e f = omega arith
silent_waits slot until (Open role group k) old new does unlike h w =
    waits_on slot until old new (with_due (is_at_door role) k (later old.time 5000000) old.deadlines) does.due does.time
    (λ d its s. stays_with (is_at_door role) old.deadlines d k (later old.time 5000000) (λ e. opens_other role group k slot old new h.life does h.there (sym e ∙ its)) s) w
silent_waits slot until (Readable k ends) old new does unlike h w = changed_waits slot until k (worded ends) old new does w
silent_waits slot until (Writable k) old new does unlike h w = changed_waits slot until k unblocked old new does w
silent_waits slot until (Lend k b) old new does unlike h w = changed_waits slot until k (lent b) old new does w
silent_waits slot until (Hold k b) old new does unlike h w = changed_waits slot until k (held b) old new does w
silent_waits slot until (BecomeRole k role group) old new does unlike h w =
    waits_on slot until old new (renamed_due k (life_at old k) old.deadlines) does.due does.time
    (λ d its s. renamed_stays (life_at old k) k old.deadlines d (λ e. not_both (sym (eq_yes k slot (sym e ∙ its)) ∙ unlike)) s) w
silent_waits slot until (Came k count b) old new does unlike h w = changed_waits slot until k (came count b) old new does w
silent_waits slot until (NothingCame k) old new does unlike h w = changed_waits slot until k none_came old new does w
silent_waits slot until (Accepted k) old new does unlike h w = changed_waits slot until k one_came old new does w
silent_waits slot until (Unaccepted k) old new does unlike h w = by (eqb_tells k slot)
  where
    by : (((nat_eq k slot ≡ true) × (k ≡ slot)) ⊎ ((nat_eq k slot ≡ false) × (k ≢ slot))) → Waits slot until new
    by (inl u) =
        own_waits slot until k (later old.time 100000) (accepts (life_at old k)) put_off old new
        (ap (λ (z : Option Life). accepts z) (at_same k slot old h.life u.1 h.there) ∙ unaccepting h.life.asked h.holds.asked) does w
    by (inr u) = other_waits slot until k (later old.time 100000) (accepts (life_at old k)) put_off old new u.1 does w
silent_waits slot until (Served k b) old new does unlike h w = changed_waits slot until k (served b) old new does w
silent_waits slot until (Took k count of_lent) old new does unlike h w = changed_waits slot until k (taken count of_lent) old new does w
silent_waits slot until (End k) old new does unlike h w = other_waits slot until k (later old.time 10000000) _ over old new (λ e. not_both (sym (eq_yes k slot e) ∙ unlike)) does w
silent_waits slot until (Fail k) old new does unlike h w = other_waits slot until k old.time _ over old new (λ e. not_both (sym (eq_yes k slot e) ∙ unlike)) does w
silent_waits slot until (Shut k) old new does unlike h w = by (shuts k slot old new h.life does h.there (λ e. unshut h.life.asked h.holds.asked))
  where
    by : Shutting slot k old new → Waits slot until new
    by (stays left) = left_waits slot until old new left w
    by (closes closed ne n) = waits_on slot until old new (without k old.deadlines) closed.due closed.time (λ d its s. stays_without old.deadlines d k (λ e. ne (sym e ∙ its)) s) w
silent_waits slot until (Next (Some done)) old new (inl due) unlike h w = by (eqb_tells due.deadline.slot slot)
  where
    by : (((nat_eq due.deadline.slot slot ≡ true) × (due.deadline.slot ≡ slot)) ⊎ ((nat_eq due.deadline.slot slot ≡ false) × (due.deadline.slot ≢ slot))) → Waits slot until new
    by (inl u) =
        let same = some_one (life_at old slot) due.life h.life (ap (λ (z : ℕ). life_at old z) (sym u.1) ∙ due.was) h.there in
        not_both (sym (silent_due due.life due.deadline.slot slot done u.1 (ap (λ (z : Life). is_at_door z.role) same ∙ h.holds.role) due.asked) ∙ unlike)
    by (inr u) =
        waits_on slot until old new (without due.deadline.slot old.deadlines) due.changed.due due.changed.time
        (λ d its s. stays_without old.deadlines d due.deadline.slot (λ e. u.1 (sym e ∙ its)) s) w
silent_waits slot until (Next (Some done)) old new (inr turn) unlike h w = waits_on slot until old new old.deadlines turn.due turn.time (λ d its s. s) w
silent_waits slot until (Next None) old new does unlike h w = rests_waits slot until old new does.1 w
silent_waits slot until Refused old new does unlike h w = left_waits slot until old new does w

record StillSilent (slot until : ℕ) (s : Sockets) : Type 0 where
  pub silent : Has IsSilent slot s
  pub waits : Waits slot until s

still_silent : (slot until : ℕ) (calls : List Call) (first last : Sockets) → StillSilent slot until first → Calls calls first last → have_left slot calls ≡ false → StillSilent slot until last
still_silent slot until [] first last i run unlike = subst (λ (s : Sockets). StillSilent slot until s) (sym run) i
still_silent slot until (c ∷ earlier) first last i run unlike =
    let apart = neither (has_left slot c) (have_left slot earlier) unlike in
    let still = still_silent slot until earlier first run.0 i run.1 apart.1 in
    record { silent = silent_step slot c run.0 last run.2 apart.0 still.silent; waits = silent_waits slot until c run.0 last run.2 apart.0 still.silent still.waits }

-- the law of who says nothing at a door
pub who_says_nothing : (slot group : ℕ) (calls : List Call) (before first last : Sockets) → Does (Open role.AtDoor group slot) before first → Calls calls first last
    → later before.time 5000000 ≤ last.time → IsEarly last → have_left slot calls ≡ true
who_says_nothing slot group calls before first last does run late early = by (have_left slot calls) refl
  where
    soon : (u t : ℕ) → u ≤ max u t
    soon u t = omega arith

    begun : StillSilent slot (later before.time 5000000) first
    begun = record {
      silent = record { life = opened role.AtDoor group; there = does.here; holds = record { role = refl; asked = refl } };
      waits = record {
        deadline = record { slot = slot; until = later before.time 5000000 };
        stands =
            subst (λ (z : List Deadline). Contains z (record { slot = slot; until = later before.time 5000000 })) (sym does.due)
            (Contains-push (without slot before.deadlines) (record { slot = slot; until = later before.time 5000000 }));
        its = refl;
        soon = soon (later before.time 5000000) first.time;
      };
    }

    by : (b : Bool) → have_left slot calls ≡ b → have_left slot calls ≡ true
    by true e = e
    by false e = absurd (come_at_last slot (later before.time 5000000) last (still_silent slot (later before.time 5000000) calls first last begun run e).waits late early)
