use Rattle.std.proofs.Common.{◌≡◌}
use Rattle.floor_kept.proofs.opening.run.Given as goal

-- the ledger stays
abbrev pub invariant-loop-n : goal.invariant-loop-n
invariant-loop-n l = l.room.ledger ≡ l.initial.room.ledger
