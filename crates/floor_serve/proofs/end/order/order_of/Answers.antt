use Rattle.std.proofs.Common.{arith}
use Rattle.floor_serve.proofs.Ordered.{ascend-more, before-at}
use Rattle.floor_serve.proofs.end.order.order_of.Goals as goal

pub loop-at-preserved : goal.loop-at-preserved
loop-at-preserved c = ascend-more c.args.seats.now c.loop-at.at (omega arith) c.loop-at.invariant
    (λ d. before-at c.args.seats.now _ c.loop-at.at c.index-seats-at.result c.index-seats-at-in-loop-at.result d (omega arith) (omega arith) c.index-seats-at.is c.index-seats-at-in-loop-at.is (c.is_before.ensures.0 c.if-not-is_before.false))
