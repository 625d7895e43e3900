-- The turn in which transactions are numbered.
use Rattle.std.proofs.Common.{◌≡◌, ℕ, ◌+◌, ◌-◌, ◌%◌, ◌<◌, ◌≤◌, inl, inr, arith}
use Rattle.std.proofs.lemmas.Bool.{cases_lt}
use Rattle.floor_client.specs.Transactions.{number_after}

-- each number from 1 to 65,535 comes within 65,535 places behind any last one
pub places_of : (last number : ℕ) → 0 < number → number ≤ 65535 → (places : ℕ) × (places < 65535) × (number_after last places ≡ number)
places_of last number some few =
    let from = last % 65535 in
    elim (cases_lt from number) [
      | inl later ↦ (number - 1 - from, omega arith, omega arith)
      | inr earlier ↦ (number - 1 + 65535 - from, omega arith, omega arith)
    ]
