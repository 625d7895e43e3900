use Rattle.std.proofs.Common.{ℕ, ◌<◌}
use Rattle.floor_serve.specs.steps.First.{SingleAt}
use Rattle.floor_serve.proofs.end.finish.first_twin.Given as goal

abbrev pub invariant-loop-at : goal.invariant-loop-at
invariant-loop-at l = (k : ℕ) → k < l.at → SingleAt l.seats k
