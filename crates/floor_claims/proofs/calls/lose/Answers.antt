use Rattle.std.proofs.Common.{[], arith}
use Rattle.floor_claims.proofs.Calling.{one-call, apart}
use Rattle.floor_claims.proofs.calls.lose.Goals as goal

pub returns-then-is_live : goal.returns-then-is_live
returns-then-is_live c = record {
  led = one-call c.args.number _ c.args.hub.now c.lost.new.self [] 0 c.lost.ensures.steps (c.lost.ensures.others c.args.number (apart c.args.other c.args.number (λ e. omega (arith, e, c.if-other-number.false)))) (c.is_live.ensures.live c.if-is_live.true) c.is_live.ensures.serving;
}
