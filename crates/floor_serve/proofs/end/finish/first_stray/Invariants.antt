use Rattle.std.proofs.Common.{◌≡◌, ℕ, ◌<◌, true}
use Rattle.std.specs.Prelude.{IfSome}
use Rattle.floor_serve.specs.Table.{is_opened}
use Rattle.floor_serve.specs.steps.First.{KnownAt}
use Rattle.floor_serve.proofs.end.finish.first_stray.Given as goal

abbrev pub invariant-loop-at : goal.invariant-loop-at
invariant-loop-at l = record {
  known : (k : ℕ) → k < l.at → KnownAt l.places.keys l.seats k;
  last : IfSome l.last (λ c. is_opened l.places.keys c ≡ true);
}
