use Rattle.std.proofs.Common.{◌≡◌, ◌++◌, length, map}
use Rattle.floor_message.specs.Picked.{groups}
use Rattle.floor_message.specs.Tell.{floor_of}
use Rattle.floor_message.proofs.format.floor_request_status.floor_statuses_of.Given as goal

abbrev pub invariant-loop-attr : goal.invariant-loop-attr
invariant-loop-attr l = l.floors.items ++ map floor_of (groups 17 l.rest) ≡ map floor_of (groups 17 l.inside)

abbrev pub decreases-loop-attr : goal.decreases-loop-attr
decreases-loop-attr l = length l.rest
