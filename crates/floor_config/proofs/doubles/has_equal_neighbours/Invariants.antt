use Rattle.std.proofs.Common.{◌≢◌, ℕ, ◌+◌, ◌<◌, get_or}
use Rattle.floor_config.proofs.doubles.has_equal_neighbours.Given as goal

abbrev pub invariant-loop-at : goal.invariant-loop-at
invariant-loop-at l = (k : ℕ) → k + 1 < l.at → get_or l.numbers k 0 ≢ get_or l.numbers (k + 1) 0
