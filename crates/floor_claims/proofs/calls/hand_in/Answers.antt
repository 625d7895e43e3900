use Rattle.std.proofs.Common.{[]}
use Rattle.floor_claims.proofs.Calling.{one-call}
use Rattle.floor_claims.proofs.calls.hand_in.Goals as goal

pub returns-then-is_live : goal.returns-then-is_live
returns-then-is_live c = record {
  led = one-call c.args.number _ c.args.hub.now c.read.new.self [] 0 c.read.ensures.steps (c.read.ensures.took c.args.number) (c.is_live.ensures.live c.if-is_live.true) c.is_live.ensures.serving;
}
