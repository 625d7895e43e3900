use Rattle.floor_queue.specs.steps.Lines.{is_lined}
use Rattle.floor_queue.proofs.Loops.{any_more, more_members}
use Rattle.floor_queue.proofs.naming.add_floors.Goals as goal

pub loop-floor-preserved : goal.loop-floor-preserved
loop-floor-preserved c = λ k.
    more_members _ _ _ _ _ _ (c.in_ok-add_floor.ensures k) (c.loop-floor.invariant k)
    (any_more (is_lined c.args.lines.now k) c.args.floors.now c.loop-floor.floor-index _ c.loop-floor-test.true)
