use Rattle.std.proofs.Common.{ap}
use Rattle.floor_outbox.proofs.Relays.{gets}
use Rattle.floor_outbox.proofs.taker.Taker.take.Goals as goal

pub pop_as-requires-clause-rule : goal.pop_as-requires-clause-rule
pop_as-requires-clause-rule g c = (gets _ _ (ap (λ v. v.takes) c.self.invariant.1), λ items views h at. tt)
