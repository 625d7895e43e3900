use Rattle.std.proofs.Common.{◌≡◌, ◌≤◌, ◌+◌, ℕ, List, ap, arith, false, length, subst, sym, nat_eq, Some, None}
use Rattle.std.specs.Prelude.{Option}
use Rattle.std.specs.Map.{lookup}
use Rattle.indexmap.specs.IndexMap.{insert_entry}
use Rattle.floor_loop.specs.declared.outgoing.Mark.{Mark}
use Rattle.floor_loop.specs.declared.outgoing.Mark.TheVariants.{Ready, Ends, Fails}
use Rattle.floor_loop.specs.Loop.{Outgoing}
use Rattle.floor_loop.specs.steps.Changed.{mark_of}
use Rattle.floor_loop.specs.steps.Listed.{HasMore, HasRoom, IsListed, Line, deadline, places}
use Rattle.floor_loop.proofs.Listing.{listed-added, listed-more, places-few, places-inserted}
use Rattle.floor_loop.proofs.attended.Attended.attach.Goals as goal

abbrev get_in : List (ℕ × Outgoing) → ℕ → Option Outgoing
get_in es k = lookup (nat_eq k) es

-- who stands in a line stands there with more room
more : (mark : Mark) (es now : List (ℕ × Outgoing)) (last : ℕ) (line next : Line) → now ≡ es → HasMore line next → IsListed mark es last line → IsListed mark now last next
more mark es now last line next same has l = subst (λ (z : List (ℕ × Outgoing)). IsListed mark z last next) (sym same) (listed-more mark es last line next has.0 has.1 l)

-- and who comes has room
comes : (mark : Mark) (es now fs : List (ℕ × Outgoing)) (number last : ℕ) (o : Outgoing) (line next : Line) → mark_of mark o ≡ None → now ≡ es → fs ≡ insert_entry nat_eq now number o → get_in fs number ≡ Some o → ((k : ℕ) → nat_eq number k ≡ false → get_in fs k ≡ get_in now k) →
    HasMore line next → HasRoom es next → IsListed mark es last line → IsListed mark fs last next
comes mark es now fs number last o line next none same inserted here others has room l =
    let count : places mark fs ≤ places mark now + 1 = subst (λ (z : List (ℕ × Outgoing)). places mark z ≤ places mark now + 1) (sym inserted) (places-inserted mark number o now) in
    let few = places-few mark now in
    let length_same = ap length same in
    listed-added mark now fs number last o line next none here others count has.0 (omega (arith, few, length_same, room)) (subst (λ (z : List (ℕ × Outgoing)). IsListed mark z last line) (sym same) l)

pub invariant_of-self : goal.invariant_of-self
invariant_of-self c =
    let es = c.self.inside.outgoing.entries in
    let now = c.reserve.new.outgoing.entries in
    let same = c.reserve.ensures.entries in
    let lines = c.reserve.ensures.lines in
    record {
      ready = more Ready es now c.self.inside.time c.self.inside.ready c.reserve.new.ready same lines.0 c.self.invariant.ready;
      ending = more Ends es now (deadline c.self.inside.time) c.self.inside.ending c.reserve.new.ending same lines.1 c.self.invariant.ending;
      failed = more Fails es now c.self.inside.time c.self.inside.failed c.reserve.new.failed same lines.2 c.self.invariant.failed;
    }

pub invariant_of-self-in-Err : goal.invariant_of-self-in-Err
invariant_of-self-in-Err c =
    let es = c.self.inside.outgoing.entries in
    let now = c.reserve.new.outgoing.entries in
    let same = c.reserve.ensures.entries in
    let lines = c.reserve.ensures.lines in
    record {
      ready = more Ready es now c.self.inside.time c.self.inside.ready c.reserve.new.ready same lines.0 c.self.invariant.ready;
      ending = more Ends es now (deadline c.self.inside.time) c.self.inside.ending c.reserve.new.ending same lines.1 c.self.invariant.ending;
      failed = more Fails es now c.self.inside.time c.self.inside.failed c.reserve.new.failed same lines.2 c.self.invariant.failed;
    }

pub invariant_of-self-in-Ok : goal.invariant_of-self-in-Ok
invariant_of-self-in-Ok c =
    let es = c.self.inside.outgoing.entries in
    let now = c.reserve.new.outgoing.entries in
    let fs = c.add_in.new.outgoing.entries in
    let number = c.in-Ok.number in
    let same = c.reserve.ensures.entries in
    let lines = c.reserve.ensures.lines in
    let room = c.in_ok-reserve.ensures.room in
    let one = c.new.result in
    let none = c.new.ensures.value in
    record {
      ready = comes Ready es now fs number c.self.inside.time one c.self.inside.ready c.reserve.new.ready (ap (mark_of Ready) none) same c.add_in.ensures.next c.add_in.ensures.here c.add_in.ensures.others lines.0 room.0 c.self.invariant.ready;
      ending = comes Ends es now fs number (deadline c.self.inside.time) one c.self.inside.ending c.reserve.new.ending (ap (mark_of Ends) none) same c.add_in.ensures.next c.add_in.ensures.here c.add_in.ensures.others lines.1 room.1 c.self.invariant.ending;
      failed = comes Fails es now fs number c.self.inside.time one c.self.inside.failed c.reserve.new.failed (ap (mark_of Fails) none) same c.add_in.ensures.next c.add_in.ensures.here c.add_in.ensures.others lines.2 room.2 c.self.invariant.failed;
    }
