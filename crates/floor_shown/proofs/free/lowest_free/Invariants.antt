use Rattle.std.proofs.Common.{◌≡◌, ℕ, ◌≤◌, ◌<◌, true}
use Rattle.floor_shown.specs.Numbers.{is_used}
use Rattle.floor_shown.proofs.free.lowest_free.Given as goal

abbrev pub invariant-loop-number : goal.invariant-loop-number
invariant-loop-number l = (n : ℕ) → 1 ≤ n → n < l.number-counter → is_used l.used n ≡ true
