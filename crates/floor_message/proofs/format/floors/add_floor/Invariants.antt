use Rattle.std.proofs.Common.{◌≡◌, drop}
use Rattle.std.specs.Prelude.{◌==◌}
use Rattle.std.specs.List.{list_any}
use Rattle.floor_message.proofs.format.floors.add_floor.Given as goal

abbrev pub invariant-loop-known : goal.invariant-loop-known
invariant-loop-known l = list_any (λ n. l.floor == n) (drop l.known-index l.known-items) ≡ list_any (λ n. l.floor == n) l.known-items
