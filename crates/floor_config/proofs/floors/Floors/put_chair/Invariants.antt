use Rattle.std.proofs.Common.{◌≡◌, ◌++◌, map, take, drop}
use Rattle.floor_config.specs.Changed.{chaired}
use Rattle.floor_config.proofs.floors.Floors.put_chair.Given as goal

abbrev pub invariant-loop-floor : goal.invariant-loop-floor
invariant-loop-floor l = l.floor-items ≡ map (chaired l.id l.chair) (take l.floor-index l.fn.self) ++ drop l.floor-index l.fn.self
