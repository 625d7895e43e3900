use Rattle.std.proofs.Common.{◌+◌, ◌*◌, ◌≤◌, length}
use Rattle.floor_wire.specs.Views.{IsSpelled}
use Rattle.floor_wire.proofs.view.+view.Given as goal

abbrev pub decreases-is_content : goal.decreases-is_content
decreases-is_content l = 2 * length l.contents.now

abbrev pub decreases-is_spelled : goal.decreases-is_spelled
decreases-is_spelled l = 2 * length l.bytes.now + 1

abbrev pub invariant-is_spelled-loop-rest : goal.invariant-is_spelled-loop-rest
invariant-is_spelled-loop-rest l = (IsSpelled l.rest → IsSpelled l.bytes) × (IsSpelled l.bytes → IsSpelled l.rest) × (length l.rest ≤ length l.bytes)

abbrev pub decreases-is_spelled-loop-rest : goal.decreases-is_spelled-loop-rest
decreases-is_spelled-loop-rest l = length l.rest
