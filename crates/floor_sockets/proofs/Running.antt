-- What stays as it is of a socket, and of its deadline, over calls.
use Rattle.std.proofs.Common.{◌≡◌, ◌≢◌, ℕ, ◌<◌, ◌≤◌, Bool, true, false, cond, List, [], ◌∷◌, refl, sym, ap, ◌∙◌, arith, subst, inl, inr, nat_eq}
use Rattle.std.specs.Prelude.{◌⊎◌, ◌&&◌, ◌||◌, Contains, Option, Some, None, max, nat_le, nat_lt, not, option_map}
use Rattle.std.proofs.lemmas.Bool.Decides.{eqb_tells}
use Rattle.std.proofs.lemmas.List.Elements.{All-contains, Contains-push}
use Rattle.floor_sockets.specs.declared.deadlines.Deadline.{Deadline}
use Rattle.floor_sockets.specs.declared.life.Asked.{Asked}
use Rattle.floor_sockets.specs.declared.life.Asked.TheVariants as asked
use Rattle.floor_sockets.specs.declared.life.Deed.{Deed}
use Rattle.floor_sockets.specs.declared.life.Deed.TheVariants as deed
use Rattle.floor_sockets.specs.declared.life.Life.{Life}
use Rattle.floor_sockets.specs.declared.role.Role.{Role}
use Rattle.floor_sockets.specs.declared.role.Role.TheVariants as role
use Rattle.floor_sockets.specs.Life.{at_accept, at_deadline, at_read, at_serve, at_shut, at_write, came, deed_of, due_of, held, is_accepting, is_shutting, lent, next_asked, next_behind, none_came, one_came, over, put_off, reading, renamed, served, shutting, taken, unblocked, worded}
use Rattle.floor_sockets.specs.Sockets.{Changed, Closed, IsLined, IsTurnOf, Left, Opens, Rests, Sockets, accepts, goes_on, is_at_door, is_there, later, life_at, renamed_due, renamed_life, with_due, without}
use Rattle.floor_sockets.specs.Runs.{Accepted, BecomeRole, Call, Calls, Came, Does, End, Fail, Hold, Lend, Next, NothingCame, Open, Readable, Refused, Served, Shut, Shuts, Time, Took, Unaccepted, Writable}
use Rattle.floor_sockets.specs.Laws.{IsEarly, given, have_shut, is_shut}
use Rattle.floor_sockets.proofs.Timing.{stays_with, stays_without}
use Rattle.floor_sockets.proofs.Turning.{eq_yes, not_both}

-- what is known of the socket in a slot is so
pub record Has (P : Life → Type 0) (slot : ℕ) (s : Sockets) : Type 0 where
  pub life : Life
  pub there : life_at s slot ≡ Some life
  pub holds : P life

pub no_life : {A : Type 0} (o : Option Life) (l : Life) → o ≡ None → o ≡ Some l → A
no_life o l e f = absurd (none_some l (sym e ∙ f))
  where
    none_some : (x : Life) → None ≡ Some x → ⊥
    none_some x e = cc

pub left_has : (P : Life → Type 0) (slot : ℕ) (old new : Sockets) → Left old new → Has P slot old → Has P slot new
left_has P slot old new left h = record { life = h.life; there = left.lives slot ∙ h.there; holds = h.holds }

pub rests_has : (P : Life → Type 0) (slot : ℕ) (old new : Sockets) → Rests old new → Has P slot old → Has P slot new
rests_has P slot old new rests h = record { life = h.life; there = rests.lives slot ∙ h.there; holds = h.holds }

pub changed_has : (P : Life → Type 0) (f : Life → Life) (k slot : ℕ) (ds : List Deadline) (old new : Sockets) → Changed f k ds old new → (nat_eq k slot ≡ true → (l : Life) → P l → P (f l)) → Has P slot old → Has P slot new
changed_has P f k slot ds old new ch keeps h = by (eqb_tells k slot)
  where
    by : (((nat_eq k slot ≡ true) × (k ≡ slot)) ⊎ ((nat_eq k slot ≡ false) × (k ≢ slot))) → Has P slot new
    by (inl u) = record {
      life = f h.life;
      there = subst (λ (z : ℕ). life_at new z ≡ option_map f (life_at old z)) u.1 ch.here ∙ ap (λ (z : Option Life). option_map f z) h.there;
      holds = keeps u.0 h.life h.holds;
    }
    by (inr u) = record { life = h.life; there = ch.others slot u.0 ∙ h.there; holds = h.holds }

pub opens_other : (role : Role) (group k slot : ℕ) (old new : Sockets) (l : Life) → Opens role group old new k → life_at old slot ≡ Some l → k ≢ slot
opens_other role group k slot old new l o there e = no_life (life_at old slot) l (subst (λ (z : ℕ). life_at old z ≡ None) e o.free) there

pub opens_has : (P : Life → Type 0) (role : Role) (group k slot : ℕ) (old new : Sockets) → Opens role group old new k → Has P slot old → Has P slot new
opens_has P role group k slot old new o h = by (eqb_tells k slot)
  where
    by : (((nat_eq k slot ≡ true) × (k ≡ slot)) ⊎ ((nat_eq k slot ≡ false) × (k ≢ slot))) → Has P slot new
    by (inl u) = absurd (opens_other role group k slot old new h.life o h.there u.1)
    by (inr u) = record { life = h.life; there = o.others slot u.0 ∙ h.there; holds = h.holds }

-- what a Shut does to another slot, or to a socket that isn't being shut
pub data Shutting (slot k : ℕ) (old new : Sockets) : Type 0 where
  stays : Left old new → Shutting slot k old new
  closes : Closed k old new → (k ≢ slot) → (nat_eq k slot ≡ false) → Shutting slot k old new

pub shuts : (k slot : ℕ) (old new : Sockets) (l : Life) → Shuts k old new → life_at old slot ≡ Some l → (nat_eq k slot ≡ true → is_shutting l.asked ≡ false) → Shutting slot k old new
shuts k slot old new l s there unshut = by (eqb_tells k slot)
  where
    other : (o : Option Life) → life_at old k ≡ o → (nat_eq k slot ≡ false) → k ≢ slot → Shutting slot k old new
    other None e n ne = stays (s.none e)
    other (Some m) e n ne = whether (is_shutting m.asked) refl
      where
        whether : (b : Bool) → is_shutting m.asked ≡ b → Shutting slot k old new
        whether true a = closes (s.took m e a) ne n
        whether false a = stays (s.not_asked m e a)

    by : (((nat_eq k slot ≡ true) × (k ≡ slot)) ⊎ ((nat_eq k slot ≡ false) × (k ≢ slot))) → Shutting slot k old new
    by (inl u) = stays (s.not_asked l (ap (λ (z : ℕ). life_at old z) u.1 ∙ there) (unshut u.0))
    by (inr u) = other (life_at old k) refl u.0 u.1

pub shut_has : (P : Life → Type 0) (slot k : ℕ) (old new : Sockets) → Shutting slot k old new → Has P slot old → Has P slot new
shut_has P slot k old new (stays left) h = left_has P slot old new left h
shut_has P slot k old new (closes closed ne n) h = record { life = h.life; there = closed.others slot n ∙ h.there; holds = h.holds }

-- the life that a slot has is one
pub some_one : (o : Option Life) (l m : Life) → o ≡ Some l → o ≡ Some m → l ≡ m
some_one o l m e f = some_is l m (sym e ∙ f)
  where
    some_is : (x y : Life) → Some x ≡ Some y → x ≡ y
    some_is x y e = cc

pub turn_has : (P : Life → Type 0) (slot : ℕ) (old new : Sockets) (deed : Deed) → IsTurnOf old new deed → ((l : Life) → P l → P (record l { asked = next_asked l })) → Has P slot old → Has P slot new
turn_has P slot old new deed t keeps h = by (eqb_tells t.slot slot)
  where
    by : (((nat_eq t.slot slot ≡ true) × (t.slot ≡ slot)) ⊎ ((nat_eq t.slot slot ≡ false) × (t.slot ≢ slot))) → Has P slot new
    by (inl u) =
        let same = some_one (life_at old slot) h.life t.life h.there (ap (λ (z : ℕ). life_at old z) (sym u.1) ∙ t.was) in
        record { life = record t.life { asked = next_asked t.life }; there = ap (λ (z : ℕ). life_at new z) (sym u.1) ∙ t.here; holds = keeps t.life (subst P same h.holds) }
    by (inr u) = record { life = h.life; there = t.others slot u.0 ∙ h.there; holds = h.holds }

-- over: nothing is asked of it but to write -----------------------------------------------------------

abbrev pub may_write : Asked → Bool
may_write asked.Nothing = true
may_write asked.Accept = false
may_write asked.Read = false
may_write asked.Serve = false
may_write asked.Write = true
may_write asked.Shut = false

pub record IsOver (l : Life) : Type 0 where
  pub over : l.is_over ≡ true
  pub asked : may_write l.asked ≡ true

pub not_shutting : (a : Asked) → may_write a ≡ true → is_shutting a ≡ false
not_shutting asked.Nothing e = refl
not_shutting asked.Accept e = refl
not_shutting asked.Read e = refl
not_shutting asked.Serve e = refl
not_shutting asked.Write e = refl
not_shutting asked.Shut e = absurd (not_both (sym e))

pub not_accepting : (a : Asked) → may_write a ≡ true → is_accepting a ≡ false
not_accepting asked.Nothing e = refl
not_accepting asked.Accept e = absurd (not_both (sym e))
not_accepting asked.Read e = refl
not_accepting asked.Serve e = refl
not_accepting asked.Write e = refl
not_accepting asked.Shut e = refl

pub keep_read : (P : Life → Type 0) (a : Asked) (x y : Life) → (a ≡ asked.Read → P x) → P y → P (at_read a x y)
keep_read P asked.Nothing x y h p = p
keep_read P asked.Accept x y h p = p
keep_read P asked.Read x y h p = h refl
keep_read P asked.Serve x y h p = p
keep_read P asked.Write x y h p = p
keep_read P asked.Shut x y h p = p

pub keep_accept : (P : Life → Type 0) (a : Asked) (x y : Life) → (a ≡ asked.Accept → P x) → P y → P (at_accept a x y)
keep_accept P asked.Nothing x y h p = p
keep_accept P asked.Accept x y h p = h refl
keep_accept P asked.Read x y h p = p
keep_accept P asked.Serve x y h p = p
keep_accept P asked.Write x y h p = p
keep_accept P asked.Shut x y h p = p

pub keep_serve : (P : Life → Type 0) (a : Asked) (x y : Life) → (a ≡ asked.Serve → P x) → P y → P (at_serve a x y)
keep_serve P asked.Nothing x y h p = p
keep_serve P asked.Accept x y h p = p
keep_serve P asked.Read x y h p = p
keep_serve P asked.Serve x y h p = h refl
keep_serve P asked.Write x y h p = p
keep_serve P asked.Shut x y h p = p

pub keep_write : (P : Life → Type 0) (a : Asked) (x y : Life) → (a ≡ asked.Write → P x) → P y → P (at_write a x y)
keep_write P asked.Nothing x y h p = p
keep_write P asked.Accept x y h p = p
keep_write P asked.Read x y h p = p
keep_write P asked.Serve x y h p = p
keep_write P asked.Write x y h p = h refl
keep_write P asked.Shut x y h p = p

pub keep_shut : (P : Life → Type 0) (a : Asked) (x y : Life) → (a ≡ asked.Shut → P x) → (is_shutting a ≡ false → P y) → P (at_shut a x y)
keep_shut P asked.Nothing x y h p = p refl
keep_shut P asked.Accept x y h p = p refl
keep_shut P asked.Read x y h p = p refl
keep_shut P asked.Serve x y h p = p refl
keep_shut P asked.Write x y h p = p refl
keep_shut P asked.Shut x y h p = h refl

pub keep_renamed : (P : Life → Type 0) (b : Bool) (x y : Life) → P x → P y → P (cond b x y)
keep_renamed P true x y p q = p
keep_renamed P false x y p q = q

pub keep_due : (P : Life → Type 0) (l : Life) → P (shutting l) → (l.is_over ≡ false → P (record l { is_held = false; asked = asked.Accept })) → P (at_deadline l)
keep_due P l p q = by l.role
  where
    listener : (b : Bool) → l.is_over ≡ b → P (cond b (shutting l) (record l { is_held = false; asked = asked.Accept }))
    listener true e = p
    listener false e = q e

    by : (r : Role) → P (due_of r l)
    by role.Listener = listener l.is_over refl
    by role.Member = p
    by role.AtDoor = p
    by role.MemberByDoor = p
    by role.Control = p
    by role.Observer = p
    by role.Console = p
    by role.Probe = p
    by role.Http = p

over_done : (l : Life) → l.is_over ≡ true → IsOver (record l { asked = asked.Nothing })
over_done l e = record { over = e; asked = refl }

-- what is asked next of one that is over
over_next : (a : Asked) (b w o h m r : Bool) (q : Role) → may_write a ≡ true → o ≡ true
    → may_write (next_behind a (cond (b && not w) asked.Write (cond (o || h) asked.Nothing (cond m asked.Serve (cond (not r) asked.Nothing (reading q)))))) ≡ true
over_next asked.Nothing true true o h m r q e f = rw f refl
over_next asked.Nothing true false o h m r q e f = refl
over_next asked.Nothing false w o h m r q e f = rw f refl
over_next asked.Accept b w o h m r q e f = refl
over_next asked.Read b w o h m r q e f = refl
over_next asked.Serve b w o h m r q e f = refl
over_next asked.Write b w o h m r q e f = refl
over_next asked.Shut b w o h m r q e f = refl

pub over_asked : (l : Life) → IsOver l → IsOver (record l { asked = next_asked l })
over_asked l i = record { over = i.over; asked = over_next l.asked l.has_bytes l.is_blocked l.is_over l.is_held l.has_more l.is_readable l.role i.asked i.over }

pub over_over : (l : Life) → IsOver l → IsOver (over l)
over_over l i = keep_shut IsOver l.asked l (record l { is_over = true; asked = asked.Nothing }) (λ e. i) (λ e. over_done (record l { is_over = true; asked = asked.Nothing }) refl)

pub begins_over : (l : Life) → is_shutting l.asked ≡ false → IsOver (over l)
begins_over l unshut =
    keep_shut IsOver l.asked l (record l { is_over = true; asked = asked.Nothing }) (λ e. not_both (ap (λ (z : Asked). is_shutting z) (sym e) ∙ unshut)) (λ e. over_done (record l { is_over = true; asked = asked.Nothing }) refl)

-- the deed of one that is over whose deadline has come is its Shut
over_due : (l : Life) (k slot : ℕ) (done : Deed) → k ≡ slot → l.is_over ≡ true → deed_of ((at_deadline l).asked) k ≡ Some done → is_shut slot (Some done) ≡ true
over_due l k slot done same e = keep_due (λ (z : Life). deed_of (z.asked) k ≡ Some done → is_shut slot (Some done) ≡ true) l shut (λ f. not_both (sym e ∙ f))
  where
    some_is : (x y : Deed) → Some x ≡ Some y → x ≡ y
    some_is x y e = cc

    shut : Some (deed.Shut k) ≡ Some done → is_shut slot (Some done) ≡ true
    shut f = subst (λ (z : Deed). is_shut slot (Some z) ≡ true) (some_is (deed.Shut k) done f) (eq_yes k slot same)

-- whoever is over is over still, but where its Shut was given
pub over_step : (slot : ℕ) (c : Call) (old new : Sockets) → Does c old new → is_shut slot (given c) ≡ false → Has IsOver slot old → Has IsOver slot new
over_step slot (Time now) old new does unlike h = record { life = h.life; there = ap (λ (s : Sockets). life_at s slot) does ∙ h.there; holds = h.holds }
over_step slot (Open role group k) old new does unlike h = opens_has IsOver role group k slot old new does h
over_step slot (Readable k ends) old new does unlike h = changed_has IsOver (worded ends) k slot _ old new does (λ e l i. record { over = i.over; asked = i.asked }) h
over_step slot (Writable k) old new does unlike h = changed_has IsOver unblocked k slot _ old new does (λ e l i. record { over = i.over; asked = i.asked }) h
over_step slot (Lend k b) old new does unlike h = changed_has IsOver (lent b) k slot _ old new does (λ e l i. record { over = i.over; asked = i.asked }) h
over_step slot (Hold k b) old new does unlike h = changed_has IsOver (held b) k slot _ old new does (λ e l i. record { over = i.over; asked = i.asked }) h
over_step slot (BecomeRole k role group) old new does unlike h =
    changed_has IsOver (renamed_life role group) k slot _ old new does (λ e l i. keep_renamed IsOver l.is_over l (renamed role group l) i (record { over = i.over; asked = i.asked })) h
over_step slot (Came k count b) old new does unlike h =
    changed_has IsOver (came count b) k slot _ old new does
    (λ e l i. keep_read IsOver l.asked (record l { is_readable = l.ends || nat_le 4096 count; has_more = b; asked = asked.Nothing }) l (λ f. over_done (record l { is_readable = l.ends || nat_le 4096 count; has_more = b }) i.over) i) h
over_step slot (NothingCame k) old new does unlike h =
    changed_has IsOver none_came k slot _ old new does
    (λ e l i.
    keep_read IsOver l.asked (record l { is_readable = false; asked = asked.Nothing }) (at_accept l.asked (record l { is_readable = false; asked = asked.Nothing }) l) (λ f. over_done (record l { is_readable = false }) i.over)
    (keep_accept IsOver l.asked (record l { is_readable = false; asked = asked.Nothing }) l (λ f. over_done (record l { is_readable = false }) i.over) i)) h
over_step slot (Accepted k) old new does unlike h = changed_has IsOver one_came k slot _ old new does (λ e l i. keep_accept IsOver l.asked (record l { asked = asked.Nothing }) l (λ f. over_done l i.over) i) h
over_step slot (Unaccepted k) old new does unlike h =
    changed_has IsOver put_off k slot _ old new does (λ e l i. keep_accept IsOver l.asked (record l { is_held = true; asked = asked.Nothing }) l (λ f. over_done (record l { is_held = true }) i.over) i) h
over_step slot (Served k b) old new does unlike h =
    changed_has IsOver (served b) k slot _ old new does (λ e l i. keep_serve IsOver l.asked (record l { has_more = b; asked = asked.Nothing }) l (λ f. over_done (record l { has_more = b }) i.over) i) h
over_step slot (Took k count of_lent) old new does unlike h =
    changed_has IsOver (taken count of_lent) k slot _ old new does
    (λ e l i.
    keep_write IsOver l.asked (record l { is_blocked = nat_lt count of_lent; has_bytes = nat_lt count of_lent; asked = asked.Nothing }) l
    (λ f. over_done (record l { is_blocked = nat_lt count of_lent; has_bytes = nat_lt count of_lent }) i.over) i) h
over_step slot (End k) old new does unlike h = changed_has IsOver over k slot _ old new does (λ e l i. over_over l i) h
over_step slot (Fail k) old new does unlike h = changed_has IsOver over k slot _ old new does (λ e l i. over_over l i) h
over_step slot (Shut k) old new does unlike h = shut_has IsOver slot k old new (shuts k slot old new h.life does h.there (λ e. not_shutting h.life.asked h.holds.asked)) h
over_step slot (Next (Some done)) old new (inl due) unlike h = by (eqb_tells due.deadline.slot slot)
  where
    by : (((nat_eq due.deadline.slot slot ≡ true) × (due.deadline.slot ≡ slot)) ⊎ ((nat_eq due.deadline.slot slot ≡ false) × (due.deadline.slot ≢ slot))) → Has IsOver slot new
    by (inl u) =
        let same = some_one (life_at old slot) due.life h.life (ap (λ (z : ℕ). life_at old z) (sym u.1) ∙ due.was) h.there in
        not_both (sym (over_due due.life due.deadline.slot slot done u.1 (ap (λ (z : Life). z.is_over) same ∙ h.holds.over) due.asked) ∙ unlike)
    by (inr u) = record { life = h.life; there = due.changed.others slot u.0 ∙ h.there; holds = h.holds }
over_step slot (Next (Some done)) old new (inr turn) unlike h = turn_has IsOver slot old new done turn (λ l i. over_asked l i) h
over_step slot (Next None) old new does unlike h = rests_has IsOver slot old new does.1 h
over_step slot Refused old new does unlike h = left_has IsOver slot old new does h

-- its deadline stands -----------------------------------------------------------------------------------

-- it has a deadline that comes by then, or has come
pub record Waits (slot until : ℕ) (s : Sockets) : Type 0 where
  pub deadline : Deadline
  pub stands : Contains s.deadlines deadline
  pub its : deadline.slot ≡ slot
  pub soon : deadline.until ≤ max until s.time

pub waits_on : (slot until : ℕ) (old new : Sockets) (ds : List Deadline) → new.deadlines ≡ ds → new.time ≡ old.time → ((d : Deadline) → d.slot ≡ slot → Contains old.deadlines d → Contains ds d) → Waits slot until old → Waits slot until new
waits_on slot until old new ds due time kept w = record {
  deadline = w.deadline;
  stands = subst (λ (z : List Deadline). Contains z w.deadline) (sym due) (kept w.deadline w.its w.stands);
  its = w.its;
  soon = subst (λ (z : ℕ). w.deadline.until ≤ max until z) (sym time) w.soon;
}

pub left_waits : (slot until : ℕ) (old new : Sockets) → Left old new → Waits slot until old → Waits slot until new
left_waits slot until old new left w = waits_on slot until old new old.deadlines left.deadlines left.time (λ d its h. h) w

pub rests_waits : (slot until : ℕ) (old new : Sockets) → Rests old new → Waits slot until old → Waits slot until new
rests_waits slot until old new rests w = waits_on slot until old new old.deadlines rests.due rests.time (λ d its h. h) w

pub changed_waits : (slot until k : ℕ) (f : Life → Life) (old new : Sockets) → Changed f k old.deadlines old new → Waits slot until old → Waits slot until new
changed_waits slot until k f old new ch w = waits_on slot until old new old.deadlines ch.due ch.time (λ d its h. h) w

-- a deadline of this slot alone is put
pub other_waits : (slot until k due : ℕ) (b : Bool) (f : Life → Life) (old new : Sockets) → k ≢ slot → Changed f k (with_due b k due old.deadlines) old new → Waits slot until old → Waits slot until new
other_waits slot until k due b f old new ne ch w = waits_on slot until old new (with_due b k due old.deadlines) ch.due ch.time (λ d its h. stays_with b old.deadlines d k due (λ e. ne (sym e ∙ its)) h) w

-- the slot's own deadlines are left, where the test says no
pub own_waits : (slot until k due : ℕ) (b : Bool) (f : Life → Life) (old new : Sockets) → b ≡ false → Changed f k (with_due b k due old.deadlines) old new → Waits slot until old → Waits slot until new
own_waits slot until k due b f old new unlike ch w =
    waits_on slot until old new (with_due b k due old.deadlines) ch.due ch.time (λ d its h. subst (λ (z : Bool). Contains (with_due z k due old.deadlines) d) (sym unlike) h) w

-- the slot's own deadline is put
pub put_waits : (slot until k due : ℕ) (b : Bool) (f : Life → Life) (old new : Sockets) → k ≡ slot → b ≡ true → due ≤ max until old.time → Changed f k (with_due b k due old.deadlines) old new → Waits slot until new
put_waits slot until k due b f old new same so soon ch = record {
  deadline = record { slot = k; until = due };
  stands =
      subst (λ (z : List Deadline). Contains z (record { slot = k; until = due })) (sym (ch.due ∙ ap (λ (z : Bool). with_due z k due old.deadlines) so))
      (Contains-push (without k old.deadlines) (record { slot = k; until = due }));
  its = same;
  soon = subst (λ (z : ℕ). due ≤ max until z) (sym ch.time) soon;
}

pub renamed_stays : (o : Option Life) (k : ℕ) (ds : List Deadline) (d : Deadline) → d.slot ≢ k → Contains ds d → Contains (renamed_due k o ds) d
renamed_stays None k ds d ne h = h
renamed_stays (Some m) k ds d ne h = by m.is_over (is_at_door m.role)
  where
    by : (b c : Bool) → Contains (cond b ds (cond c (without k ds) ds)) d
    by true c = h
    by false true = stays_without ds d k ne h
    by false false = h

renamed_same : (o : Option Life) (l : Life) (k : ℕ) (ds : List Deadline) → o ≡ Some l → l.is_over ≡ true → renamed_due k o ds ≡ ds
renamed_same o l k ds e over = ap (λ (z : Option Life). renamed_due k z ds) e ∙ ap (λ (b : Bool). cond b ds (cond (is_at_door l.role) (without k ds) ds)) over

-- of who is to be shut down the role stays
pub over_stays : (role : Role) (group slot : ℕ) (s : Sockets) (life : Life) → life_at s slot ≡ Some life → life.is_over ≡ true → IsLined (Some life) slot s.line s.line s.is_short s.is_short
    → Changed (renamed_life role group) slot (renamed_due slot (life_at s slot) s.deadlines) s s
over_stays role group slot s life is over lined =
    let same : option_map (renamed_life role group) (life_at s slot) ≡ Some life = ap (λ (o : Option Life). option_map (renamed_life role group) o) is ∙ ap (λ (b : Bool). Some (cond b life (renamed role group life))) over in
    record {
      here = is ∙ sym same;
      others = λ k e. refl;
      line = subst (λ (o : Option Life). IsLined o slot s.line s.line s.is_short s.is_short) (sym same) lined;
      due = sym (renamed_same (life_at s slot) life slot s.deadlines is over);
      time = refl;
    }

pub at_same : (k slot : ℕ) (s : Sockets) (l : Life) → k ≡ slot → life_at s slot ≡ Some l → life_at s k ≡ Some l
at_same k slot s l e there = ap (λ (z : ℕ). life_at s z) e ∙ there

pub waits_step : (slot until : ℕ) (c : Call) (old new : Sockets) → Does c old new → is_shut slot (given c) ≡ false → Has IsOver slot old → Waits slot until old → Waits slot until new
waits_step slot until (Time now) old new does unlike h w = record {
  deadline = w.deadline;
  stands = subst (λ (z : Sockets). Contains z.deadlines w.deadline) (sym does) w.stands;
  its = w.its;
  soon = later_still w.deadline.until until old.time now new.time w.soon (ap (λ (z : Sockets). z.time) does);
}
  where
    later_still : (d u t n s : ℕ) → d ≤ max u t → s ≡ max t n → d ≤ max u s
    later_still d u t n s e f = omega arith
waits_step slot until (Open role group k) old new does unlike h w =
    waits_on slot until old new (with_due (is_at_door role) k (later old.time 5000000) old.deadlines) does.due does.time
    (λ d its s. stays_with (is_at_door role) old.deadlines d k (later old.time 5000000) (λ e. opens_other role group k slot old new h.life does h.there (sym e ∙ its)) s) w
waits_step slot until (Readable k ends) old new does unlike h w = changed_waits slot until k (worded ends) old new does w
waits_step slot until (Writable k) old new does unlike h w = changed_waits slot until k unblocked old new does w
waits_step slot until (Lend k b) old new does unlike h w = changed_waits slot until k (lent b) old new does w
waits_step slot until (Hold k b) old new does unlike h w = changed_waits slot until k (held b) old new does w
waits_step slot until (BecomeRole k role group) old new does unlike h w = by (eqb_tells k slot)
  where
    by : (((nat_eq k slot ≡ true) × (k ≡ slot)) ⊎ ((nat_eq k slot ≡ false) × (k ≢ slot))) → Waits slot until new
    by (inl u) = waits_on slot until old new old.deadlines (does.due ∙ renamed_same (life_at old k) h.life k old.deadlines (at_same k slot old h.life u.1 h.there) h.holds.over) does.time (λ d its s. s) w
    by (inr u) = waits_on slot until old new (renamed_due k (life_at old k) old.deadlines) does.due does.time (λ d its s. renamed_stays (life_at old k) k old.deadlines d (λ e. u.1 (sym e ∙ its)) s) w
waits_step slot until (Came k count b) old new does unlike h w = changed_waits slot until k (came count b) old new does w
waits_step slot until (NothingCame k) old new does unlike h w = changed_waits slot until k none_came old new does w
waits_step slot until (Accepted k) old new does unlike h w = changed_waits slot until k one_came old new does w
waits_step slot until (Unaccepted k) old new does unlike h w = by (eqb_tells k slot)
  where
    by : (((nat_eq k slot ≡ true) × (k ≡ slot)) ⊎ ((nat_eq k slot ≡ false) × (k ≢ slot))) → Waits slot until new
    by (inl u) =
        own_waits slot until k (later old.time 100000) (accepts (life_at old k)) put_off old new
        (ap (λ (z : Option Life). accepts z) (at_same k slot old h.life u.1 h.there) ∙ not_accepting h.life.asked h.holds.asked) does w
    by (inr u) = other_waits slot until k (later old.time 100000) (accepts (life_at old k)) put_off old new u.1 does w
waits_step slot until (Served k b) old new does unlike h w = changed_waits slot until k (served b) old new does w
waits_step slot until (Took k count of_lent) old new does unlike h w = changed_waits slot until k (taken count of_lent) old new does w
waits_step slot until (End k) old new does unlike h w = by (eqb_tells k slot)
  where
    by : (((nat_eq k slot ≡ true) × (k ≡ slot)) ⊎ ((nat_eq k slot ≡ false) × (k ≢ slot))) → Waits slot until new
    by (inl u) =
        own_waits slot until k (later old.time 10000000) (goes_on (life_at old k)) over old new
        (ap (λ (z : Option Life). goes_on z) (at_same k slot old h.life u.1 h.there) ∙ ap (λ (b : Bool). not b) h.holds.over) does w
    by (inr u) = other_waits slot until k (later old.time 10000000) (goes_on (life_at old k)) over old new u.1 does w
waits_step slot until (Fail k) old new does unlike h w = by (eqb_tells k slot)
  where
    by : (((nat_eq k slot ≡ true) × (k ≡ slot)) ⊎ ((nat_eq k slot ≡ false) × (k ≢ slot))) → Waits slot until new
    by (inl u) =
        put_waits slot until k old.time (is_there (life_at old k)) over old new u.1
        (ap (λ (z : Option Life). is_there z) (at_same k slot old h.life u.1 h.there) ∙ ap (λ (b : Bool). not b) (not_shutting h.life.asked h.holds.asked)) (omega arith) does
    by (inr u) = other_waits slot until k old.time (is_there (life_at old k)) over old new u.1 does w
waits_step slot until (Shut k) old new does unlike h w = by (shuts k slot old new h.life does h.there (λ e. not_shutting h.life.asked h.holds.asked))
  where
    by : Shutting slot k old new → Waits slot until new
    by (stays left) = left_waits slot until old new left w
    by (closes closed ne n) = waits_on slot until old new (without k old.deadlines) closed.due closed.time (λ d its s. stays_without old.deadlines d k (λ e. ne (sym e ∙ its)) s) w
waits_step slot until (Next (Some done)) old new (inl due) unlike h w = by (eqb_tells due.deadline.slot slot)
  where
    by : (((nat_eq due.deadline.slot slot ≡ true) × (due.deadline.slot ≡ slot)) ⊎ ((nat_eq due.deadline.slot slot ≡ false) × (due.deadline.slot ≢ slot))) → Waits slot until new
    by (inl u) =
        let same = some_one (life_at old slot) due.life h.life (ap (λ (z : ℕ). life_at old z) (sym u.1) ∙ due.was) h.there in
        not_both (sym (over_due due.life due.deadline.slot slot done u.1 (ap (λ (z : Life). z.is_over) same ∙ h.holds.over) due.asked) ∙ unlike)
    by (inr u) =
        waits_on slot until old new (without due.deadline.slot old.deadlines) due.changed.due due.changed.time
        (λ d its s. stays_without old.deadlines d due.deadline.slot (λ e. u.1 (sym e ∙ its)) s) w
waits_step slot until (Next (Some done)) old new (inr turn) unlike h w = waits_on slot until old new old.deadlines turn.due turn.time (λ d its s. s) w
waits_step slot until (Next None) old new does unlike h w = rests_waits slot until old new does.1 w
waits_step slot until Refused old new does unlike h w = left_waits slot until old new does w

-- over calls --------------------------------------------------------------------------------------------

pub neither : (a b : Bool) → (a || b) ≡ false → (a ≡ false) × (b ≡ false)
neither false false e = (refl, refl)
neither false true e = absurd (not_both e)
neither true b e = absurd (not_both e)

-- whoever is to be shut is to be shut still
pub record IsToBeShut (slot until : ℕ) (s : Sockets) : Type 0 where
  pub over : Has IsOver slot s
  pub waits : Waits slot until s

pub to_be_shut : (slot until : ℕ) (calls : List Call) (first last : Sockets) → IsToBeShut slot until first → Calls calls first last → have_shut slot calls ≡ false → IsToBeShut slot until last
to_be_shut slot until [] first last i run unlike = subst (λ (s : Sockets). IsToBeShut slot until s) (sym run) i
to_be_shut slot until (c ∷ earlier) first last i run unlike =
    let apart = neither (is_shut slot (given c)) (have_shut slot earlier) unlike in
    let still = to_be_shut slot until earlier first run.0 i run.1 apart.1 in
    record { over = over_step slot c run.0 last run.2 apart.0 still.over; waits = waits_step slot until c run.0 last run.2 apart.0 still.over still.waits }

-- and then its deadline has come
pub come_at_last : (slot until : ℕ) (last : Sockets) → Waits slot until last → until ≤ last.time → IsEarly last → ⊥
come_at_last slot until last w late early =
    let ahead = All-contains (λ (d : Deadline). last.time < d.until) last.deadlines w.deadline early w.stands in
    none w.deadline.until until last.time w.soon late ahead
  where
    none : (d u t : ℕ) → d ≤ max u t → u ≤ t → t < d → ⊥
    none d u t e f g = omega arith

pub is_shut_in_time : (slot until : ℕ) (calls : List Call) (first last : Sockets) → IsToBeShut slot until first → Calls calls first last → until ≤ last.time → IsEarly last → have_shut slot calls ≡ true
is_shut_in_time slot until calls first last i run late early = by (have_shut slot calls) refl
  where
    by : (b : Bool) → have_shut slot calls ≡ b → have_shut slot calls ≡ true
    by true e = e
    by false e = absurd (come_at_last slot until last (to_be_shut slot until calls first last i run e).waits late early)

-- the law of who is ended
pub who_is_ended :
    (slot : ℕ) (l : Life) (calls : List Call) (before first last : Sockets) → life_at before slot ≡ Some l → l.is_over ≡ false → is_shutting l.asked ≡ false → Does (End slot) before first → Calls calls first last
    → later before.time 10000000 ≤ last.time → IsEarly last → have_shut slot calls ≡ true
who_is_ended slot l calls before first last there on unshut does run late early = is_shut_in_time slot (later before.time 10000000) calls first last begun run late early
  where
    soon : (u t : ℕ) → u ≤ max u t
    soon u t = omega arith

    begun : IsToBeShut slot (later before.time 10000000) first
    begun = record {
      over = record { life = over l; there = does.here ∙ ap (λ (z : Option Life). option_map over z) there; holds = begins_over l unshut };
      waits =
          put_waits slot (later before.time 10000000) slot (later before.time 10000000) (goes_on (life_at before slot)) over before first refl
          (ap (λ (z : Option Life). goes_on z) there ∙ ap (λ (b : Bool). not b) on) (soon (later before.time 10000000) before.time) does;
    }

-- the law of who fails
pub who_fails :
    (slot : ℕ) (l : Life) (calls : List Call) (before first last : Sockets) → life_at before slot ≡ Some l → is_shutting l.asked ≡ false → Does (Fail slot) before first → Calls calls first last → IsEarly last
    → have_shut slot calls ≡ true
who_fails slot l calls before first last there unshut does run early = is_shut_in_time slot 0 calls first last begun run (omega arith) early
  where
    soon : (u t : ℕ) → t ≤ max u t
    soon u t = omega arith

    begun : IsToBeShut slot 0 first
    begun = record {
      over = record { life = over l; there = does.here ∙ ap (λ (z : Option Life). option_map over z) there; holds = begins_over l unshut };
      waits =
          put_waits slot 0 slot before.time (is_there (life_at before slot)) over before first refl
          (ap (λ (z : Option Life). is_there z) there ∙ ap (λ (b : Bool). not b) unshut) (soon 0 before.time) does;
    }
