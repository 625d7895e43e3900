use Rattle.std.proofs.Common.{◌≡◌, length}
use Rattle.floor_message.specs.Picked.{first, octet_strings}
use Rattle.floor_message.proofs.format.octets.first_octets.Given as goal

abbrev pub invariant-loop-attr : goal.invariant-loop-attr
invariant-loop-attr l = first (octet_strings l.kind l.rest) ≡ first (octet_strings l.kind l.attrs)

abbrev pub decreases-loop-attr : goal.decreases-loop-attr
decreases-loop-attr l = length l.rest
