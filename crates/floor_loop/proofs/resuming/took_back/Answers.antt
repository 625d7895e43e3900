use Rattle.floor_hub.specs.declared.step.Step.TheVariants.{Took}
use Rattle.floor_loop.specs.Done.{AtMost}
use Rattle.floor_loop.specs.steps.Moved.{loop_of}
use Rattle.floor_loop.proofs.Calls.{moved-took}
use Rattle.floor_loop.proofs.Carrying.{carries-moved}
use Rattle.floor_loop.proofs.Moving.{fewer}
use Rattle.floor_loop.proofs.resuming.took_back.Goals as goal

pub returns : goal.returns
returns c =
    let old = loop_of c.args.hub.now c.args.attended.now in
    let new = loop_of c.took-done.new.self c.wake.new.attended in
    record {
      carries = λ conference. carries-moved conference (AtMost 1 (Took c.args.number c.args.k)) old new
          (moved-took c.args.number c.args.k old new c.took-done.result c.took-done.ensures.next c.took-done.ensures.room c.took-done.ensures.connections c.took-done.ensures.concerned c.took-done.ensures.gathered c.wake.ensures.kept (fewer c.args.attended.now c.wake.new.attended c.wake.ensures.away) c.wake.ensures.woken);
    }
