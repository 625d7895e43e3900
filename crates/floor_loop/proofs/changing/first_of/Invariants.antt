use Rattle.std.proofs.Common.{ℕ, length}
use Rattle.floor_loop.specs.steps.Listed.{IsListed}
use Rattle.floor_loop.proofs.changing.first_of.Given as goal

-- the line is one of the same connections
abbrev pub invariant-loop-entry : goal.invariant-loop-entry
invariant-loop-entry l = (last : ℕ) → IsListed l.mark l.outgoing.entries last l.fn.line → IsListed l.mark l.outgoing.entries last l.line

abbrev pub decreases-loop-entry : goal.decreases-loop-entry
decreases-loop-entry l = length l.line.entries
