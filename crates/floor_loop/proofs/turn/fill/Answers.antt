use Rattle.std.proofs.Common.{◌≡◌, ℕ, false, ap, refl, ◌∙◌}
use Rattle.std.specs.Prelude.{nat_eq, option_and_then}
use Rattle.floor_hub.specs.Hub.{Hub}
use Rattle.floor_hub.specs.StandsFor.{StandsFor}
use Rattle.floor_hub.specs.World.{World}
use Rattle.floor_loop.specs.declared.outgoing.Mark.TheVariants.{Fails}
use Rattle.floor_loop.specs.Done.{NoSteps}
use Rattle.floor_loop.specs.Loop.{Attended, outgoing_in}
use Rattle.floor_loop.specs.steps.Changed.{carrying, changed, marked}
use Rattle.floor_loop.specs.steps.Moved.{Moved, SameEnds, SameLedgers, loop_of}
use Rattle.floor_loop.specs.steps.Taken.{TakenFor}
use Rattle.floor_loop.proofs.Calls.{moved-kept, moved-taken}
use Rattle.floor_loop.proofs.Marking.{keeps-marked, ready-changed}
use Rattle.floor_loop.proofs.Moving.{fewer, moved-before}
use Rattle.floor_loop.proofs.Sparing.{ends-changed, ledgers-taken}
use Rattle.floor_loop.proofs.Writing.{changed-beside}
use Rattle.floor_loop.proofs.turn.fill.Goals as goal

-- what was taken
module _ (number : ℕ) (a b : Attended) (hub new : Hub) (stands : (w : World) → StandsFor hub w → StandsFor new w) (t : TakenFor number a.outgoing b.outgoing hub new) (away : b.away ≡ a.away) where
  moved : Moved NoSteps (loop_of hub a) (loop_of new b)
  moved = moved-taken number a b hub new stands t (fewer a b away)

  ready : (k : ℕ) → option_and_then (λ o. o.ready) (outgoing_in b k) ≡ option_and_then (λ o. o.ready) (outgoing_in a k)
  ready k = ready-changed (carrying t.rest t.parcels) number a b t.next (λ o. refl) k

  ends : SameEnds a b
  ends k = ends-changed (carrying t.rest t.parcels) number a b t.next (λ o. refl) k

  ledgers : SameLedgers hub new
  ledgers = ledgers-taken number a.outgoing b.outgoing hub new t

  others : (k : ℕ) → nat_eq number k ≡ false → outgoing_in b k ≡ outgoing_in a k
  others k ne = changed-beside (carrying t.rest t.parcels) number a b t.next k ne

  -- and then it failed
  module _ (d : Attended) (failed : d ≡ record b { outgoing = changed (marked Fails b.time) number b.outgoing }) where
    next : d.outgoing ≡ changed (marked Fails b.time) number b.outgoing
    next = ap (λ (z : Attended). z.outgoing) failed

    moved-on : Moved NoSteps (loop_of hub a) (loop_of new d)
    moved-on =
        moved-before NoSteps (loop_of hub a) (loop_of new b) (loop_of new d) moved
        (moved-kept (loop_of new b) (loop_of new d) refl (keeps-marked Fails b.time number b d next) (fewer b d (ap (λ (z : Attended). z.away) failed)))

    ready-still : (k : ℕ) → option_and_then (λ o. o.ready) (outgoing_in d k) ≡ option_and_then (λ o. o.ready) (outgoing_in a k)
    ready-still k = ready-changed (marked Fails b.time) number b d next (λ o. refl) k ∙ ready k

    ends-still : SameEnds a d
    ends-still k = ends-changed (marked Fails b.time) number b d next (λ o. refl) k ∙ ends k

    others-still : (k : ℕ) → nat_eq number k ≡ false → outgoing_in d k ≡ outgoing_in a k
    others-still k ne = changed-beside (marked Fails b.time) number b d next k ne ∙ others k ne

pub returns-then-taken-clause-moved : goal.returns-then-taken-clause-moved
returns-then-taken-clause-moved c = moved-on c.args.number c.args.attended.now c.take_all.new.self c.args.hub.now c.take_all.new.hub c.take_all.ensures.stands c.take_all.ensures.next c.take_all.ensures.away c.fail.new.self c.fail.ensures.next

pub returns-then-taken-clause-ready : goal.returns-then-taken-clause-ready
returns-then-taken-clause-ready c = ready-still c.args.number c.args.attended.now c.take_all.new.self c.args.hub.now c.take_all.new.hub c.take_all.ensures.stands c.take_all.ensures.next c.take_all.ensures.away c.fail.new.self c.fail.ensures.next

pub returns-then-taken-clause-ends : goal.returns-then-taken-clause-ends
returns-then-taken-clause-ends c = ends-still c.args.number c.args.attended.now c.take_all.new.self c.args.hub.now c.take_all.new.hub c.take_all.ensures.stands c.take_all.ensures.next c.take_all.ensures.away c.fail.new.self c.fail.ensures.next

pub returns-then-taken-clause-ledgers : goal.returns-then-taken-clause-ledgers
returns-then-taken-clause-ledgers c = ledgers c.args.number c.args.attended.now c.take_all.new.self c.args.hub.now c.take_all.new.hub c.take_all.ensures.stands c.take_all.ensures.next c.take_all.ensures.away

pub returns-then-taken-clause-others : goal.returns-then-taken-clause-others
returns-then-taken-clause-others c = others-still c.args.number c.args.attended.now c.take_all.new.self c.args.hub.now c.take_all.new.hub c.take_all.ensures.stands c.take_all.ensures.next c.take_all.ensures.away c.fail.new.self c.fail.ensures.next

pub returns-else-taken-clause-moved : goal.returns-else-taken-clause-moved
returns-else-taken-clause-moved c = moved c.args.number c.args.attended.now c.take_all.new.self c.args.hub.now c.take_all.new.hub c.take_all.ensures.stands c.take_all.ensures.next c.take_all.ensures.away

pub returns-else-taken-clause-ready : goal.returns-else-taken-clause-ready
returns-else-taken-clause-ready c = ready c.args.number c.args.attended.now c.take_all.new.self c.args.hub.now c.take_all.new.hub c.take_all.ensures.stands c.take_all.ensures.next c.take_all.ensures.away

pub returns-else-taken-clause-ends : goal.returns-else-taken-clause-ends
returns-else-taken-clause-ends c = ends c.args.number c.args.attended.now c.take_all.new.self c.args.hub.now c.take_all.new.hub c.take_all.ensures.stands c.take_all.ensures.next c.take_all.ensures.away

pub returns-else-taken-clause-ledgers : goal.returns-else-taken-clause-ledgers
returns-else-taken-clause-ledgers c = ledgers c.args.number c.args.attended.now c.take_all.new.self c.args.hub.now c.take_all.new.hub c.take_all.ensures.stands c.take_all.ensures.next c.take_all.ensures.away

pub returns-else-taken-clause-others : goal.returns-else-taken-clause-others
returns-else-taken-clause-others c = others c.args.number c.args.attended.now c.take_all.new.self c.args.hub.now c.take_all.new.hub c.take_all.ensures.stands c.take_all.ensures.next c.take_all.ensures.away

pub returns-in-Err-clause-moved : goal.returns-in-Err-clause-moved
returns-in-Err-clause-moved c = moved-on c.args.number c.args.attended.now c.take_all.new.self c.args.hub.now c.take_all.new.hub c.take_all.ensures.stands c.take_all.ensures.next c.take_all.ensures.away c.fail-in-Err.new.self c.fail-in-Err.ensures.next

pub returns-in-Err-clause-ready : goal.returns-in-Err-clause-ready
returns-in-Err-clause-ready c = ready-still c.args.number c.args.attended.now c.take_all.new.self c.args.hub.now c.take_all.new.hub c.take_all.ensures.stands c.take_all.ensures.next c.take_all.ensures.away c.fail-in-Err.new.self c.fail-in-Err.ensures.next

pub returns-in-Err-clause-ends : goal.returns-in-Err-clause-ends
returns-in-Err-clause-ends c = ends-still c.args.number c.args.attended.now c.take_all.new.self c.args.hub.now c.take_all.new.hub c.take_all.ensures.stands c.take_all.ensures.next c.take_all.ensures.away c.fail-in-Err.new.self c.fail-in-Err.ensures.next

pub returns-in-Err-clause-ledgers : goal.returns-in-Err-clause-ledgers
returns-in-Err-clause-ledgers c = ledgers c.args.number c.args.attended.now c.take_all.new.self c.args.hub.now c.take_all.new.hub c.take_all.ensures.stands c.take_all.ensures.next c.take_all.ensures.away

pub returns-in-Err-clause-others : goal.returns-in-Err-clause-others
returns-in-Err-clause-others c = others-still c.args.number c.args.attended.now c.take_all.new.self c.args.hub.now c.take_all.new.hub c.take_all.ensures.stands c.take_all.ensures.next c.take_all.ensures.away c.fail-in-Err.new.self c.fail-in-Err.ensures.next
