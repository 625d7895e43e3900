use Rattle.floor_loop.specs.steps.Carried.{Carries}
use Rattle.floor_loop.specs.steps.Moved.{loop_of}
use Rattle.floor_loop.proofs.resuming.replay_all.Given as goal

-- the steps of some events were done
abbrev pub invariant-loop-event : goal.invariant-loop-event
invariant-loop-event l = Carries l.conference (loop_of l.fn.hub l.fn.attended) (loop_of l.hub l.attended)
