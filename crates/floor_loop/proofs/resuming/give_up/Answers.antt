use Rattle.floor_hub.specs.declared.step.Step.TheVariants.{Leave}
use Rattle.floor_loop.specs.Done.{AtMost}
use Rattle.floor_loop.specs.steps.Moved.{loop_of}
use Rattle.floor_loop.proofs.Carrying.{carries-both, carries-moved}
use Rattle.floor_loop.proofs.resuming.give_up.Goals as goal

pub loop-place-preserved : goal.loop-place-preserved
loop-place-preserved c =
    let mid = loop_of c.loop-place.hub c.loop-place.attended in
    let new = loop_of c.send_off.new.hub c.send_off.new.attended in
    carries-both c.args.conference (loop_of c.args.hub.now c.args.attended.now) mid new c.loop-place.invariant (carries-moved c.args.conference (AtMost 1 (Leave c.in-Some.number)) mid new c.send_off.ensures.moved)
