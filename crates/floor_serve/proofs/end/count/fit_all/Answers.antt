use Rattle.std.proofs.Common.{length, ap, arith}
use Rattle.floor_serve.proofs.Counts.{counted-all, counted-few, counted-more, part-of}
use Rattle.floor_serve.proofs.end.count.fit_all.Goals as goal

pub loop-seat-preserved : goal.loop-seat-preserved
loop-seat-preserved c =
    let s = c.seat-item.result in
    let part = part-of c.args.journal.now s c.sent.result.now c.n-in-loop-seat.result c.sent.ensures c.n-in-loop-seat.ensures (c.is_part.ensures c.if-not-is_part.false) in
    counted-more c.args.journal.now c.args.seats.now c.loop-seat.seat-index c.loop-seat.bound c.loop-seat.count _ _ s (omega arith) c.seat-item.is
    (omega (arith, c.if-n-bound.false, c.from-n.ensures, c.n.ensures)) (omega (arith, c.from-n.ensures, c.n.ensures)) (omega (arith, ap length c.sent-in-loop-seat.ensures)) part c.loop-seat.invariant

pub overflow_add-count : goal.overflow_add-count
overflow_add-count c = omega (arith, counted-few _ _ _ _ _ (loop-seat-preserved c))

pub returns : goal.returns
returns c = counted-all c.args.journal.now c.args.seats.now c.loop-seat.seat-index c.loop-seat.bound c.loop-seat.count c.messages.result c.loop-seat.invariant (omega arith) c.messages.ensures
