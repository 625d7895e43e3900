use Rattle.std.proofs.Common.{sym, ◌∙◌}
use Rattle.floor_connections.proofs.Lengths.{over_at}
use Rattle.floor_connections.proofs.announced.Announced.pass.Goals as goal

pub returns-then-is_too_long-clause-next : goal.returns-then-is_too_long-clause-next
returns-then-is_too_long-clause-next c =
    over_at c.args.longest c.loop-byte.byte-index c.loop-byte.self c.take.new.self c.args.bytes.now c.loop-byte-test.true c.take.ensures.next (sym c.is_too_long.ensures.value ∙ c.if-is_too_long.true) ∙ sym c.loop-byte.invariant.next
