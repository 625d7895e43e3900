use Rattle.std.proofs.Common.{◌≡◌, ◌≤◌, ◌∙◌, ℕ, Bool, true, false, List, [], Option, None, Some, append-nil, ap, arith, length, subst, sym, take}
use Rattle.std.proofs.lemmas.Bool.{false≢true}
use Rattle.std.proofs.lemmas.List.{take_min}
use Rattle.std.specs.Io.KnownBytes.{Appends, Keeps}
use Rattle.floor_meetings.specs.declared.meetings.Meetings.{Meetings}
use Rattle.floor_desk.specs.declared.callers.Callers.{Callers}
use Rattle.floor_service.specs.Calls.{FirstAt, Takes}
use Rattle.floor_service.specs.declared.service.Service.{Service}
use Rattle.floor_streams.specs.Wrote.{WritesSome}
use Rattle.floor_streams.specs.declared.writing.Written.{Written}
use Rattle.floor_streams.specs.declared.writing.Written.TheVariants as written
use Rattle.floor_turn.specs.Moves.{Moves, taken_at, taken_of}
use Rattle.floorhub_next.specs.Moving.{IsClient, IsMember, Took, asks_write, count_of, lent_to_client, lent_to_member}
use Rattle.floorhub_next.proofs.moving.write_once.Goals as goal

-- bytes that stay as they were grow by none
grows_by_none : (was is : Option (List ℕ)) → Keeps was is → Appends was is []
grows_by_none None is kept = tt
grows_by_none (Some xs) None kept = absurd kept
grows_by_none (Some xs) (Some ys) kept = kept ∙ sym (append-nil xs)

-- no more was taken than there was
within : (was is : Option (List ℕ)) (lent : List ℕ) (w : Written) → WritesSome was is lent w → count_of w ≤ length lent
within was is lent written.All some = omega arith
within was is lent (written.Bytes count) some = some.0
within was is lent written.Nothing kept = omega arith
within was is lent written.Failure kept = omega arith

-- what was taken stands at the end
grew : (was is : Option (List ℕ)) (lent : List ℕ) (w : Written) → WritesSome was is lent w → Appends was is (take (count_of w) lent)
grew was is lent written.All some = grows_by_none was is some.1
grew was is lent (written.Bytes count) some = some.1
grew was is lent written.Nothing kept = grows_by_none was is kept
grew was is lent written.Failure kept = grows_by_none was is kept

-- so many of the bytes that were lent were taken, where a write was asked
taken_so : (socket count : ℕ) (there lent : List ℕ) (asked : Bool) (old new : Meetings) → lent ≡ there → asked ≡ true →
    Moves (taken_at socket (taken_of asked count there)) old new → Moves (taken_at socket (take count lent)) old new
taken_so socket count there lent false old new same is moved = absurd (false≢true is)
taken_so socket count there lent true old new same is moved =
    subst (λ (bytes : List ℕ). Moves (taken_at socket bytes) old new) (take_min count there ∙ ap (take count) (sym same)) moved

-- what a write took was told of its socket
told_so : (socket n : ℕ) (old new : Service) (was is : Option (List ℕ)) (lent : List ℕ) (w : Written) → n ≡ count_of w →
    (IsMember old socket → lent ≡ lent_to_member old socket) → (IsClient old socket → lent ≡ lent_to_client old socket) → WritesSome was is lent w →
    (IsMember old socket → Moves (taken_at socket (taken_of (asks_write old socket) n (lent_to_member old socket))) old.server.meetings new.server.meetings) →
    (IsClient old socket → asks_write old socket ≡ true → FirstAt socket (Takes n) old.desk.callers new.desk.callers) →
    Took socket old new was is
told_so socket n old new was is lent w same to_member to_client some moved took = record {
  lent = lent;
  to_member = to_member;
  to_client = to_client;
  count = n;
  within = subst (λ (k : ℕ). k ≤ length lent) (sym same) (within was is lent w some);
  grew = subst (λ (k : ℕ). Appends was is (take k lent)) (sym same) (grew was is lent w some);
  told = λ member asked. taken_so socket n (lent_to_member old socket) lent (asks_write old socket) old.server.meetings new.server.meetings (to_member member) asked (moved member);
  taken = took;
}

pub returns-in-All : goal.returns-in-All
returns-in-All g c = record {
  value = told_so c.args.socket c.count_of.result c.args.server.now c.took.new.self (g.S.Write.contents c.args.stream.now) (g.S.Write.contents c.write_some-written.new.stream)
      c.lent.result.now c.write_some-written.result c.count_of.ensures.value c.lent.ensures.member c.lent.ensures.client c.write_some-written.ensures.value
      c.took.ensures.member c.took.ensures.taken;
  failed = λ e. absurd (false≢true e);
}

pub returns-in-All-2 : goal.returns-in-All-2
returns-in-All-2 g c = record {
  value = told_so c.args.socket c.count_of.result c.args.server.now c.took.new.self (g.S.Write.contents c.args.stream.now) (g.S.Write.contents c.write_some-written.new.stream)
      c.lent.result.now c.write_some-written.result c.count_of.ensures.value c.lent.ensures.member c.lent.ensures.client c.write_some-written.ensures.value
      c.took.ensures.member c.took.ensures.taken;
  failed = λ e. absurd (false≢true e);
}

pub returns-in-Bytes-eq0 : goal.returns-in-Bytes-eq0
returns-in-Bytes-eq0 g c =
    let old = c.args.server.now in
    let socket = c.args.socket in
    let n = c.count_of.result in
    record {
      value = told_so socket n old c.writable.new.self (g.S.Write.contents c.args.stream.now) (g.S.Write.contents c.write_some-written.new.stream)
          c.lent.result.now c.write_some-written.result c.count_of.ensures.value c.lent.ensures.member c.lent.ensures.client c.write_some-written.ensures.value
          (λ member. subst (λ (m : Meetings). Moves (taken_at socket (taken_of (asks_write old socket) n (lent_to_member old socket))) old.server.meetings m) (sym c.writable.ensures.meetings) (c.took.ensures.member member))
          (λ client asked. subst (λ (cs : Callers). FirstAt socket (Takes n) old.desk.callers cs) (sym c.writable.ensures.callers) (c.took.ensures.taken client asked));
      failed = λ e. absurd (false≢true e);
    }
