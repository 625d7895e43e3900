use Rattle.std.proofs.Common.{rules}
use Rattle.floor_outbox.proofs.Relays.{begins, forks}
use Rattle.floor_outbox.proofs.outbox.pair.Goals as goal

pub with_rule-requires : goal.with_rule-requires
with_rule-requires c = begins

pub another-second-requires-clause-rule : goal.another-second-requires-clause-rule
another-second-requires-clause-rule c = forks _ _ (search rules) (search rules)
