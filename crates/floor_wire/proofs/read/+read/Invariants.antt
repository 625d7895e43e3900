use Rattle.std.proofs.Common.{◌≤◌, ◌+◌, ◌-◌, ◌*◌, length, take}
use Rattle.floor_wire.specs.Spelling.{Spells}
use Rattle.floor_wire.specs.View.{attributes_of}
use Rattle.floor_wire.proofs.read.+read.Given as goal

abbrev pub decreases-body_of : goal.decreases-body_of
decreases-body_of l = 2 * length l.contents.now + 2

abbrev pub decreases-front_of : goal.decreases-front_of
decreases-front_of l = 2 * length l.bytes.now

abbrev pub decreases-part_of : goal.decreases-part_of
decreases-part_of l = 2 * length l.bytes.now + 1

abbrev pub invariant-part_of-loop-at : goal.invariant-part_of-loop-at
invariant-part_of-loop-at l = (l.at ≤ length l.bytes) × Spells (attributes_of l.items.items) (take l.at l.bytes)

abbrev pub decreases-part_of-loop-at : goal.decreases-part_of-loop-at
decreases-part_of-loop-at l = length l.bytes - l.at
