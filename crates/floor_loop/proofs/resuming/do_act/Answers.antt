use Rattle.floor_hub.specs.declared.step.Step.TheVariants.{Admin}
use Rattle.floor_loop.specs.Done.{AtMost}
use Rattle.floor_loop.specs.steps.Moved.{loop_of}
use Rattle.floor_loop.proofs.Calls.{moved-admin}
use Rattle.floor_loop.proofs.Carrying.{carries-moved}
use Rattle.floor_loop.proofs.Moving.{fewer}
use Rattle.floor_loop.proofs.resuming.do_act.Goals as goal

pub returns : goal.returns
returns c =
    let old = loop_of c.args.hub.now c.args.attended.now in
    let new = loop_of c.admin-done.new.self c.wake.new.attended in
    record {
      carries = carries-moved c.args.conference (AtMost 1 (Admin c.args.conference c.args.act)) old new
          (moved-admin c.args.conference c.args.act old new c.admin-done.result c.admin-done.ensures.next c.admin-done.ensures.room c.admin-done.ensures.connections c.admin-done.ensures.concerned c.admin-done.ensures.gathered c.wake.ensures.kept (fewer c.args.attended.now c.wake.new.attended c.wake.ensures.away) c.wake.ensures.woken);
    }
