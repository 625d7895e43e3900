use Rattle.floor_loop.specs.steps.Carried.{Carries}
use Rattle.floor_loop.specs.steps.Moved.{loop_of}
use Rattle.floor_loop.proofs.resuming.give_up.Given as goal

-- some have left
abbrev pub invariant-loop-place : goal.invariant-loop-place
invariant-loop-place l = Carries l.conference (loop_of l.fn.hub l.fn.attended) (loop_of l.hub l.attended)
