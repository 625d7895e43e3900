use Rattle.std.proofs.Common.{[]}
use Rattle.floor_claims.proofs.Calling.{one-call}
use Rattle.floor_claims.proofs.calls.fill.Goals as goal

pub returns-then-is_live : goal.returns-then-is_live
returns-then-is_live c = record {
  led = one-call c.args.number _ c.args.hub.now c.ready-ready.new.self [] 0 c.ready-ready.ensures.steps (c.ready-ready.ensures.took c.args.number) (c.is_live.ensures.live c.if-is_live.true) c.is_live.ensures.serving;
}
