use Rattle.std.proofs.Common.{◌≡◌, ◌++◌, take}
use Rattle.std.specs.List.{flat_map}
use Rattle.std.specs.String.{string_bytes}
use Rattle.floor_client.specs.Rendered as spec
use Rattle.floor_client.proofs.rendering.put_floors.Given as goal

-- those that were gone over are appended
abbrev pub invariant-loop-floor : goal.invariant-loop-floor
invariant-loop-floor l = string_bytes l.out ≡ string_bytes l.initial.out ++ flat_map spec.floor_text (take l.floor-index l.floors)
