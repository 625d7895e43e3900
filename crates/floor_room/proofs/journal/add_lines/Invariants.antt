use Rattle.std.proofs.Common.{◌≡◌, ◌-◌, ◌≤◌, ◌+◌, ◌++◌, length, string_bytes, take, drop}
use Rattle.floor_room.specs.Text.{lines}
use Rattle.floor_room.proofs.journal.add_lines.Given as goal

-- behind the text stand the lines of the first `added` events of the rest
abbrev pub invariant-loop-added : goal.invariant-loop-added
invariant-loop-added l =
    (1 ≤ l.added) × (l.added ≤ 4096) × (l.added ≤ length l.events - l.done)
    × (string_bytes l.text ≡ string_bytes l.fn.text ++ lines (l.done + 1) (take l.added (drop l.done l.events)))

abbrev pub decreases-loop-added : goal.decreases-loop-added
decreases-loop-added l = length l.events - l.done - l.added
