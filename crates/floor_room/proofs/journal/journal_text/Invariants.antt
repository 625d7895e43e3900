use Rattle.std.proofs.Common.{◌≡◌, ◌-◌, ◌≤◌, length, string_bytes, take}
use Rattle.floor_room.specs.Text.{lines}
use Rattle.floor_room.proofs.journal.journal_text.Given as goal

-- the first `done` events have their lines
abbrev pub invariant-loop-done : goal.invariant-loop-done
invariant-loop-done l = (l.done ≤ length l.events) × (string_bytes l.text ≡ lines 1 (take l.done l.events))

abbrev pub decreases-loop-done : goal.decreases-loop-done
decreases-loop-done l = length l.events - l.done
