use Rattle.std.proofs.Common.{◌≡◌, length}
use Rattle.floor_message.specs.Picked.{first, numbers}
use Rattle.floor_message.proofs.format.number.first_number.Given as goal

abbrev pub invariant-loop-attr : goal.invariant-loop-attr
invariant-loop-attr l = first (numbers l.kind l.rest) ≡ first (numbers l.kind l.attrs)

abbrev pub decreases-loop-attr : goal.decreases-loop-attr
decreases-loop-attr l = length l.rest
