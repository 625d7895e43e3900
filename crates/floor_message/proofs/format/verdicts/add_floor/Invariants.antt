use Rattle.std.proofs.Common.{◌≡◌, drop}
use Rattle.std.specs.Prelude.{◌==◌}
use Rattle.std.specs.List.{list_any}
use Rattle.floor_message.proofs.format.verdicts.add_floor.Given as goal

abbrev pub invariant-loop-known : goal.invariant-loop-known
invariant-loop-known l = list_any (λ v. l.floor == v.0) (drop l.known-index l.known-items) ≡ list_any (λ v. l.floor == v.0) l.known-items
