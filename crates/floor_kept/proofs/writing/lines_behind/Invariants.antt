use Rattle.std.proofs.Common.{length, ◌-◌, ◌≡◌, ◌+◌, ◌≤◌, drop, string_bytes, take}
use Rattle.floor_room.specs.Text.{lines}
use Rattle.floor_kept.proofs.writing.lines_behind.Given as goal

-- the events up to `at` have their lines
abbrev pub invariant-loop-at : goal.invariant-loop-at
invariant-loop-at l = record {
  from : l.done ≤ l.at;
  within : l.at ≤ length l.journal;
  text_is : string_bytes l.text ≡ lines (l.done + 1) (take (l.at - l.done) (drop l.done l.journal));
}

abbrev pub decreases-loop-at : goal.decreases-loop-at
decreases-loop-at l = length l.journal - l.at
