use Rattle.std.proofs.Common.{◌≡◌, ℕ, ◌<◌, true}
use Rattle.floor_client.specs.Transactions as spec
use Rattle.floor_client.proofs.transactions.Transactions.next.Given as goal

-- each number that was tried is open
abbrev pub invariant-loop-places : goal.invariant-loop-places
invariant-loop-places l = (before : ℕ) → before < l.places → spec.is_open l.self.open_numbers (spec.number_after l.self.last before) ≡ true
