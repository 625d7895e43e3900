use Rattle.std.proofs.Common.{ap}
use Rattle.floor_outbox.proofs.Relays.{drains, counts}
use Rattle.floor_outbox.proofs.outbox.Outbox.pop.Goals as goal

pub pop_as-requires-clause-rule : goal.pop_as-requires-clause-rule
pop_as-requires-clause-rule g c = let puts = ap (λ v. v.puts) c.self.invariant.1 in let takes = ap (λ v. v.takes) c.self.invariant.1 in (drains _ _ puts takes, counts _ _ puts takes)
