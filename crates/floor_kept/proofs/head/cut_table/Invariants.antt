use Rattle.std.proofs.Common.{◌≤◌, ◌+◌, length, string_bytes}
use denote.Text.{Utf8}
use denote.Shadow.{shadow}
use Rattle.floor_kept.specs.steps.Cut.{Passed}
use Rattle.floor_kept.proofs.head.cut_table.Given as goal

-- the lines before the rest are the table's
abbrev pub invariant-loop-line : goal.invariant-loop-line
invariant-loop-line l =
    shadow (Utf8 l.rest)
    × record {
      passed : Passed l.text (string_bytes l.table) l.lines l.rest;
      counted : l.lines + length l.rest ≤ length l.text + 2;
    }

abbrev pub decreases-loop-line : goal.decreases-loop-line
decreases-loop-line l = length l.rest
