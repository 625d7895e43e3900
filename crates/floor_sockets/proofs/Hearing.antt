-- What stays as it is of a socket of which the poll gave word, over calls.
use Rattle.std.proofs.Common.{◌≡◌, ℕ, Bool, true, false, cond, List, [], ◌∷◌, refl, sym, ap, ◌∙◌, arith, subst, inl, inr, nat_eq}
use Rattle.std.specs.Prelude.{◌&&◌, ◌||◌, Option, Some, None, nat_le, nat_lt, not, option_map}
use Rattle.std.proofs.lemmas.Bool.Decides.{nat_tests}
use Rattle.floor_sockets.specs.declared.life.Asked.{Asked}
use Rattle.floor_sockets.specs.declared.life.Asked.TheVariants as asked
use Rattle.floor_sockets.specs.declared.life.Life.{Life}
use Rattle.floor_sockets.specs.declared.role.Role.{Role}
use Rattle.floor_sockets.specs.declared.role.Role.TheVariants as role
use Rattle.floor_sockets.specs.Life.{at_deadline, came, held, is_awaiting, is_something, lent, next_behind, none_came, one_came, over, put_off, reading, renamed, served, taken, unblocked, worded}
use Rattle.floor_sockets.specs.Sockets.{IsDone, Sockets, life_at, renamed_life}
use Rattle.floor_sockets.specs.Runs.{Accepted, BecomeRole, Call, Calls, Came, Does, End, Fail, Hold, Lend, Next, NothingCame, Open, Readable, Refused, Served, Shut, Time, Took, Unaccepted, Writable}
use Rattle.floor_sockets.specs.Laws.{have_last, is_last}
use Rattle.floor_sockets.proofs.Running.{Has, changed_has, keep_accept, keep_due, keep_read, keep_renamed, keep_serve, keep_shut, keep_write, left_has, neither, opens_has, rests_has, shut_has, shuts, some_one, turn_has}
use Rattle.floor_sockets.proofs.Turning.{not_both}

-- something may be read, and where the poll told that the stream ends this is kept
pub record IsTold (ends : Bool) (l : Life) : Type 0 where
  pub readable : l.is_readable ≡ true
  pub ending : ends ≡ true → l.ends ≡ true

or_left : (a b : Bool) → a ≡ true → (a || b) ≡ true
or_left true b e = refl
or_left false b e = not_both (sym e)

or_right : (a b : Bool) → b ≡ true → (a || b) ≡ true
or_right true b e = refl
or_right false true e = refl
or_right false false e = not_both (sym e)

and_false : (a b : Bool) → a ≡ true → (a && b) ≡ false → b ≡ false
and_false true true e f = f
and_false true false e f = refl
and_false false b e f = not_both (sym e)

enough : (count : ℕ) → nat_lt count 4096 ≡ false → nat_le 4096 count ≡ true
enough count e = grind (arith, nat_tests)

-- a read of which more may follow
more_came : (ends a : Bool) (count : ℕ) → (ends ≡ true → a ≡ true) → (nat_lt count 4096 && not ends) ≡ false → (a || nat_le 4096 count) ≡ true
more_came true a count h unlike = or_left a (nat_le 4096 count) (h refl)
more_came false a count h unlike = or_right a (nat_le 4096 count) (enough count (all (nat_lt count 4096) unlike))
  where
    all : (b : Bool) → (b && true) ≡ false → b ≡ false
    all true e = e
    all false e = refl

-- whoever may be read may be read still, but where a read was the last
told_step : (slot : ℕ) (ends : Bool) (c : Call) (old new : Sockets) → Does c old new → is_last slot ends c ≡ false → Has (IsTold ends) slot old → Has (IsTold ends) slot new
told_step slot ends (Time now) old new does unlike h = record { life = h.life; there = ap (λ (s : Sockets). life_at s slot) does ∙ h.there; holds = h.holds }
told_step slot ends (Open role group k) old new does unlike h = opens_has (IsTold ends) role group k slot old new does h
told_step slot ends (Readable k e) old new does unlike h = changed_has (IsTold ends) (worded e) k slot _ old new does (λ u l i. record { readable = refl; ending = λ f. or_left l.ends e (i.ending f) }) h
told_step slot ends (Writable k) old new does unlike h = changed_has (IsTold ends) unblocked k slot _ old new does (λ u l i. record { readable = i.readable; ending = i.ending }) h
told_step slot ends (Lend k b) old new does unlike h = changed_has (IsTold ends) (lent b) k slot _ old new does (λ u l i. record { readable = i.readable; ending = i.ending }) h
told_step slot ends (Hold k b) old new does unlike h = changed_has (IsTold ends) (held b) k slot _ old new does (λ u l i. record { readable = i.readable; ending = i.ending }) h
told_step slot ends (BecomeRole k role group) old new does unlike h =
    changed_has (IsTold ends) (renamed_life role group) k slot _ old new does
    (λ u l i. keep_renamed (IsTold ends) l.is_over l (renamed role group l) i (record { readable = i.readable; ending = i.ending })) h
told_step slot ends (Came k count b) old new does unlike h =
    changed_has (IsTold ends) (came count b) k slot _ old new does
    (λ u l i.
    keep_read (IsTold ends) l.asked (record l { is_readable = l.ends || nat_le 4096 count; has_more = b; asked = asked.Nothing }) l
    (λ f. record { readable = more_came ends l.ends count i.ending (and_false (nat_eq k slot) (nat_lt count 4096 && not ends) u unlike); ending = i.ending }) i) h
told_step slot ends (NothingCame k) old new does unlike h = changed_has (IsTold ends) none_came k slot _ old new does (λ u l i. not_both (sym u ∙ unlike)) h
told_step slot ends (Accepted k) old new does unlike h =
    changed_has (IsTold ends) one_came k slot _ old new does
    (λ u l i. keep_accept (IsTold ends) l.asked (record l { asked = asked.Nothing }) l (λ f. record { readable = i.readable; ending = i.ending }) i) h
told_step slot ends (Unaccepted k) old new does unlike h =
    changed_has (IsTold ends) put_off k slot _ old new does
    (λ u l i. keep_accept (IsTold ends) l.asked (record l { is_held = true; asked = asked.Nothing }) l (λ f. record { readable = i.readable; ending = i.ending }) i) h
told_step slot ends (Served k b) old new does unlike h =
    changed_has (IsTold ends) (served b) k slot _ old new does
    (λ u l i. keep_serve (IsTold ends) l.asked (record l { has_more = b; asked = asked.Nothing }) l (λ f. record { readable = i.readable; ending = i.ending }) i) h
told_step slot ends (Took k count of_lent) old new does unlike h =
    changed_has (IsTold ends) (taken count of_lent) k slot _ old new does
    (λ u l i.
    keep_write (IsTold ends) l.asked (record l { is_blocked = nat_lt count of_lent; has_bytes = nat_lt count of_lent; asked = asked.Nothing }) l
    (λ f. record { readable = i.readable; ending = i.ending }) i) h
told_step slot ends (End k) old new does unlike h =
    changed_has (IsTold ends) over k slot _ old new does
    (λ u l i. keep_shut (IsTold ends) l.asked l (record l { is_over = true; asked = asked.Nothing }) (λ f. i) (λ f. record { readable = i.readable; ending = i.ending })) h
told_step slot ends (Fail k) old new does unlike h =
    changed_has (IsTold ends) over k slot _ old new does
    (λ u l i. keep_shut (IsTold ends) l.asked l (record l { is_over = true; asked = asked.Nothing }) (λ f. i) (λ f. record { readable = i.readable; ending = i.ending })) h
told_step slot ends (Shut k) old new does unlike h = shut_has (IsTold ends) slot k old new (shuts k slot old new h.life does h.there (λ u. not_both (sym u ∙ unlike))) h
told_step slot ends (Next (Some done)) old new (inl due) unlike h =
    changed_has (IsTold ends) at_deadline due.deadline.slot slot _ old new due.changed
    (λ u l i. keep_due (IsTold ends) l (record { readable = i.readable; ending = i.ending }) (λ f. record { readable = i.readable; ending = i.ending })) h
told_step slot ends (Next (Some done)) old new (inr turn) unlike h = turn_has (IsTold ends) slot old new done turn (λ l i. record { readable = i.readable; ending = i.ending }) h
told_step slot ends (Next None) old new does unlike h = rests_has (IsTold ends) slot old new does.1 h
told_step slot ends Refused old new does unlike h = left_has (IsTold ends) slot old new does h

told_still : (slot : ℕ) (ends : Bool) (calls : List Call) (first last : Sockets) → Has (IsTold ends) slot first → Calls calls first last → have_last slot ends calls ≡ false → Has (IsTold ends) slot last
told_still slot ends [] first last h run unlike = subst (λ (s : Sockets). Has (IsTold ends) slot s) (sym run) h
told_still slot ends (c ∷ earlier) first last h run unlike =
    let apart = neither (is_last slot ends c) (have_last slot ends earlier) unlike in
    told_step slot ends c run.0 last run.2 apart.0 (told_still slot ends earlier first run.0 h run.1 apart.1)

-- of who may be read, and isn't over or held, something is to be asked
reads_something : (q : Role) → is_something (reading q) ≡ true
reads_something role.Listener = refl
reads_something role.Member = refl
reads_something role.AtDoor = refl
reads_something role.MemberByDoor = refl
reads_something role.Control = refl
reads_something role.Observer = refl
reads_something role.Console = refl
reads_something role.Probe = refl
reads_something role.Http = refl

asks_something : (b w m : Bool) (q : Role)
    → is_something (next_behind asked.Nothing (cond (b && not w) asked.Write (cond (false || false) asked.Nothing (cond m asked.Serve (cond (not true) asked.Nothing (reading q)))))) ≡ true
asks_something true false m q = refl
asks_something true true true q = refl
asks_something true true false q = reads_something q
asks_something false w true q = refl
asks_something false w false q = reads_something q

waits_for : (a : Asked) (b w o h m r : Bool) (q : Role) → a ≡ asked.Nothing → o ≡ false → h ≡ false → r ≡ true
    → is_something (next_behind a (cond (b && not w) asked.Write (cond (o || h) asked.Nothing (cond m asked.Serve (cond (not r) asked.Nothing (reading q)))))) ≡ true
waits_for a b w o h m r q ea eo eh er = rw (ea, eo, eh, er) (asks_something b w m q)

-- the law of whom the poll gave word of
pub who_is_told_of : (slot : ℕ) (ends : Bool) (l m : Life) (calls : List Call) (before first last : Sockets) → life_at before slot ≡ Some l → Does (Readable slot ends) before first → Calls calls first last → IsDone last
    → life_at last slot ≡ Some m → m.asked ≡ asked.Nothing → m.is_over ≡ false → m.is_held ≡ false → have_last slot ends calls ≡ true
who_is_told_of slot ends l m calls before first last there does run done is idle on free = by (have_last slot ends calls) refl
  where
    told : Has (IsTold ends) slot first
    told = record {
      life = worded ends l;
      there = does.here ∙ ap (λ (z : Option Life). option_map (worded ends) z) there;
      holds = record { readable = refl; ending = λ e. or_right l.ends ends e };
    }

    by : (b : Bool) → have_last slot ends calls ≡ b → have_last slot ends calls ≡ true
    by true e = e
    by false e =
        let h = told_still slot ends calls first last told run e in
        let same = some_one (life_at last slot) h.life m h.there is in
        let readable : m.is_readable ≡ true = ap (λ (z : Life). z.is_readable) (sym same) ∙ h.holds.readable in
        let waits : is_awaiting m ≡ true = waits_for m.asked m.has_bytes m.is_blocked m.is_over m.is_held m.has_more m.is_readable m.role idle on free readable in
        not_both (sym waits ∙ done.nobody slot m is)
