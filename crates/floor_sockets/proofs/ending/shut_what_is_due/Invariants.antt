use Rattle.std.proofs.Common.{length}
use Rattle.floor_sockets.specs.steps.Ending.{IsEnding}
use Rattle.floor_sockets.proofs.ending.shut_what_is_due.Given as goal

-- somebody is ending still
abbrev pub invariant-loop-deed : goal.invariant-loop-deed
invariant-loop-deed l = IsEnding l.slot l.sockets

abbrev pub decreases-loop-deed : goal.decreases-loop-deed
decreases-loop-deed l = length l.sockets.deadlines
