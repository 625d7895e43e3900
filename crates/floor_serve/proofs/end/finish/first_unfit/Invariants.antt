use Rattle.std.proofs.Common.{ℕ, ◌<◌}
use Rattle.floor_serve.specs.steps.First.{AgreesAt}
use Rattle.floor_serve.proofs.end.finish.first_unfit.Given as goal

abbrev pub invariant-loop-at : goal.invariant-loop-at
invariant-loop-at l = (k : ℕ) → k < l.at → AgreesAt l.booth l.conference l.seats k
