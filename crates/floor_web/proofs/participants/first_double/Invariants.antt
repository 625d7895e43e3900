use Rattle.std.proofs.Common.{◌≡◌, length}
use Rattle.floor_web.specs.Participants.{bearers, first_double}
use Rattle.floor_web.proofs.participants.first_double.Given as goal

abbrev pub invariant-loop-first : goal.invariant-loop-first
invariant-loop-first l = first_double (bearers l.rest) ≡ first_double (bearers l.participants)

abbrev pub decreases-loop-first : goal.decreases-loop-first
decreases-loop-first l = length l.rest
