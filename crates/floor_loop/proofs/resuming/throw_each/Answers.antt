use Rattle.floor_loop.specs.steps.Moved.{loop_of}
use Rattle.floor_loop.proofs.Carrying.{carries-both, carries-same}
use Rattle.floor_loop.proofs.resuming.throw_each.Goals as goal

pub loop-number-init : goal.loop-number-init
loop-number-init c = carries-same c.args.conference (loop_of c.args.hub.now c.args.attended.now)

pub loop-number-preserved : goal.loop-number-preserved
loop-number-preserved c =
    carries-both c.args.conference (loop_of c.args.hub.now c.args.attended.now) (loop_of c.loop-number.hub c.loop-number.attended) (loop_of c.throw_own.new.hub c.throw_own.new.attended) c.loop-number.invariant
    c.throw_own.ensures.carries

pub returns : goal.returns
returns c = record { carries = c.loop-number.invariant }
