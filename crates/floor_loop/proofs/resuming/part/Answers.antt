use Rattle.floor_loop.proofs.Carrying.{carries-same}
use Rattle.floor_hub.specs.declared.step.Step.TheVariants.{Leave}
use Rattle.floor_loop.specs.Done.{AtMost}
use Rattle.floor_loop.specs.steps.Moved.{loop_of}
use Rattle.floor_loop.proofs.Carrying.{carries-moved}
use Rattle.floor_loop.proofs.resuming.part.Goals as goal

pub returns : goal.returns
returns c = record {
  carries = λ conference. carries-moved conference (AtMost 1 (Leave c.args.number)) (loop_of c.args.hub.now c.args.attended.now) (loop_of c.send_off.new.hub c.send_off.new.attended) c.send_off.ensures.moved;
}

pub returns-then-is_none : goal.returns-then-is_none
returns-then-is_none c = record { carries = λ d. carries-same d (loop_of c.args.hub.now c.args.attended.now) }
