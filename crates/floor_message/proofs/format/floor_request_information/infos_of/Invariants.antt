use Rattle.std.proofs.Common.{◌≡◌, ◌++◌, length}
use Rattle.floor_message.specs.Tell.{infos_of}
use Rattle.floor_message.proofs.format.floor_request_information.infos_of.Given as goal

abbrev pub invariant-loop-attr : goal.invariant-loop-attr
invariant-loop-attr l = l.infos.items ++ infos_of l.rest ≡ infos_of l.attrs

abbrev pub decreases-loop-attr : goal.decreases-loop-attr
decreases-loop-attr l = length l.rest
