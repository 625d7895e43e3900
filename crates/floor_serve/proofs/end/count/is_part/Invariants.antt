use Rattle.std.proofs.Common.{◌+◌, drop}
use Rattle.floor_serve.specs.Fits.{messages_of, sent_from}
use Rattle.floor_serve.specs.steps.Parts.{IsPart}
use Rattle.floor_serve.proofs.end.count.is_part.Given as goal

abbrev pub invariant-loop-entry : goal.invariant-loop-entry
invariant-loop-entry l = IsPart (drop l.entry-index l.sent) (sent_from (l.at + 1) (drop l.at l.journal) l.n) → IsPart l.sent (messages_of l.journal l.n)
