use Rattle.std.proofs.Common.{◌≡◌, length}
use Rattle.floor_message.specs.Picked.{first, pairs}
use Rattle.floor_message.proofs.format.pair.first_pair.Given as goal

abbrev pub invariant-loop-attr : goal.invariant-loop-attr
invariant-loop-attr l = first (pairs l.kind l.rest) ≡ first (pairs l.kind l.attrs)

abbrev pub decreases-loop-attr : goal.decreases-loop-attr
decreases-loop-attr l = length l.rest
