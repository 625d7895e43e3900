use Rattle.std.proofs.Common.{arith}
use Rattle.floor_serve.proofs.Counts.{messages-more}
use Rattle.floor_serve.proofs.end.count.messages.Goals as goal

pub loop-event-preserved : goal.loop-event-preserved
loop-event-preserved c =
    let more = messages-more c.args.journal.now c.loop-event.event-index c.event-item.result (omega arith) c.event-item.is in
    record {
      count = omega (arith, more, c.loop-event.invariant.count, c.message_count-count.ensures.value);
      few = omega (arith, c.loop-event.invariant.few, c.message_count-count.ensures.one);
    }
