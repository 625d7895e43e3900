use Rattle.std.proofs.Common.{◌≡◌, length}
use Rattle.floor_message.specs.Picked.{first, groups}
use Rattle.floor_message.proofs.format.group.first_group.Given as goal

abbrev pub invariant-loop-attr : goal.invariant-loop-attr
invariant-loop-attr l = first (groups l.kind l.rest) ≡ first (groups l.kind l.attrs)

abbrev pub decreases-loop-attr : goal.decreases-loop-attr
decreases-loop-attr l = length l.rest
