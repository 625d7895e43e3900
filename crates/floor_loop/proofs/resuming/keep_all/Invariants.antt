use Rattle.floor_loop.specs.steps.Carried.{Carries}
use Rattle.floor_loop.specs.steps.Moved.{loop_of}
use Rattle.floor_loop.proofs.resuming.keep_all.Given as goal

-- some are away, or have left
abbrev pub invariant-loop-turn : goal.invariant-loop-turn
invariant-loop-turn l = Carries l.conference (loop_of l.fn.hub l.fn.attended) (loop_of l.hub l.attended)
