use Rattle.std.proofs.Common.{rules}
use Rattle.floor_outbox.proofs.Relays.{merges, counts}
use Rattle.floor_outbox.proofs.outbox.rejoin.Goals as goal

pub absorb-requires-clause-rule : goal.absorb-requires-clause-rule
absorb-requires-clause-rule g c = merges _ _ _ _ (search rules) (search rules)

pub len_as-requires-clause-rule : goal.len_as-requires-clause-rule
len_as-requires-clause-rule g c = counts _ _ (search rules) (search rules)
