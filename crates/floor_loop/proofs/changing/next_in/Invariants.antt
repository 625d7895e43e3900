use Rattle.std.proofs.Common.{◌≡◌, ℕ, length}
use Rattle.floor_loop.specs.declared.outgoing.Mark.TheVariants.{Ready}
use Rattle.floor_loop.specs.steps.Listed.{IsListed}
use Rattle.floor_loop.proofs.changing.next_in.Given as goal

-- nobody was given, and the line is one of the same connections
abbrev pub invariant-loop-entry : goal.invariant-loop-entry
invariant-loop-entry l = (l.outgoing.entries ≡ l.fn.outgoing.entries) × ((last : ℕ) → IsListed Ready l.fn.outgoing.entries last l.fn.ready → IsListed Ready l.outgoing.entries last l.ready)

abbrev pub decreases-loop-entry : goal.decreases-loop-entry
decreases-loop-entry l = length l.ready.entries
