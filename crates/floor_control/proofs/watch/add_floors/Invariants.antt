use Rattle.std.proofs.Common.{◌≡◌, ◌++◌, take}
use Rattle.std.specs.List.{flat_map}
use Rattle.std.specs.String.{string_bytes}
use Rattle.floor_control.specs.Watch.{floor_text}
use Rattle.floor_control.proofs.watch.add_floors.Given as goal

-- those that were gone over are added
abbrev pub invariant-loop-floor : goal.invariant-loop-floor
invariant-loop-floor l = string_bytes l.out ≡ string_bytes l.initial.out ++ flat_map (floor_text l.overall) (take l.floor-index l.floors)
