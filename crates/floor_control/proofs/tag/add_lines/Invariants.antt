use Rattle.std.proofs.Common.{◌≡◌, ◌++◌, string_bytes, length}
use denote.Text.{Utf8}
use denote.Shadow.{shadow}
use Rattle.floor_control.specs.Tag.{lines_behind}
use Rattle.floor_control.proofs.tag.add_lines.Given as goal

-- what stands there and what is left are the whole
abbrev pub invariant-lines : goal.invariant-lines
invariant-lines l =
    shadow (Utf8 l.rest)
    × (string_bytes l.out ++ lines_behind l.tag l.rest ≡ string_bytes l.fn.out ++ lines_behind l.tag l.text)

abbrev pub decreases-lines : goal.decreases-lines
decreases-lines l = length l.rest
