use Rattle.std.proofs.Common.{arith}
use Rattle.floor_serve.proofs.Counts.{part-step}
use Rattle.floor_serve.proofs.end.count.is_part.Goals as goal

pub loop-entry-preserved : goal.loop-entry-preserved
loop-entry-preserved c = part-step _ c.args.journal.now c.args.sent.now c.loop-entry.entry-index c.loop-entry.at c.in-Some.next c.args.n c.entry-item.result (omega arith) c.entry-item.is c.in-Some.ensures c.loop-entry.invariant
