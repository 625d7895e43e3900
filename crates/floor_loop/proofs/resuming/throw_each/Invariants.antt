use Rattle.floor_loop.specs.steps.Carried.{Carries}
use Rattle.floor_loop.specs.steps.Moved.{loop_of}
use Rattle.floor_loop.proofs.resuming.throw_each.Given as goal

-- what waits for some was thrown away
abbrev pub invariant-loop-number : goal.invariant-loop-number
invariant-loop-number l = Carries l.conference (loop_of l.fn.hub l.fn.attended) (loop_of l.hub l.attended)
