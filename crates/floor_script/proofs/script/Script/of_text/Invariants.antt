use Rattle.std.proofs.Common.{length}
use Rattle.floor_script.proofs.Dividing.{Passed}
use Rattle.floor_script.proofs.script.Script.of_text.Given as goal

-- no line so far is the divider
abbrev pub invariant-loop-line : goal.invariant-loop-line
invariant-loop-line l = Passed l.text l.lines.read l.lines.rest.now

abbrev pub decreases-loop-line : goal.decreases-loop-line
decreases-loop-line l = length l.lines.rest.now
