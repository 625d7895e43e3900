use Rattle.std.proofs.Common.{◌≡◌}
use Rattle.floor_kept.proofs.opening.take_all.Given as goal

-- the ledger stays
abbrev pub invariant-loop : goal.invariant-loop
invariant-loop l = l.room.ledger ≡ l.fn.room.ledger
