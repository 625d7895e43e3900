use Rattle.std.proofs.Common.{ap}
use Rattle.floor_outbox.proofs.Relays.{sends}
use Rattle.floor_outbox.proofs.sender.Sender.put_asleep.Goals as goal

pub push_as-requires-clause-rule : goal.push_as-requires-clause-rule
push_as-requires-clause-rule g c = λ n. sends n _ _ _ (ap (λ v. v.puts) c.self.invariant.1)
