use Rattle.floor_hub.specs.declared.step.Step.TheVariants.{Attach}
use Rattle.floor_loop.specs.Done.{AtMost}
use Rattle.floor_loop.specs.steps.Moved.{loop_of}
use Rattle.floor_loop.proofs.Carrying.{carries-joined}
use Rattle.floor_loop.proofs.resuming.attach_one.Goals as goal

pub returns : goal.returns
returns c = record {
  carries = carries-joined c.args.conference (AtMost 1 (Attach c.args.conference c.args.user)) (loop_of c.args.hub.now c.args.attended.now) (loop_of c.attach.new.hub c.attach.new.attended) c.attach.ensures.steps c.attach.ensures.moved c.attach.ensures.others c.attach.ensures.gathered;
}
