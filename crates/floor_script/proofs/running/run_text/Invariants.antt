use Rattle.std.proofs.Common.{length}
use Rattle.floor_script.proofs.Outcomes.{Far}
use Rattle.floor_script.proofs.running.run_text.Given as goal

-- so many lines were run
abbrev pub invariant-loop-conferences : goal.invariant-loop-conferences
invariant-loop-conferences g l = Far l.text l.conferences l.lines.read l.lines.rest.now (g.W.Write.contents l.fn.output) (g.W.Write.contents l.output)

abbrev pub decreases-loop-conferences : goal.decreases-loop-conferences
decreases-loop-conferences g l = length l.lines.rest.now
