use Rattle.std.proofs.Common.{◌≡◌, true, take, All}
use Rattle.std.specs.List.{list_all}
use Rattle.floor_config.specs.Configuration.{IsFloor}
use Rattle.floor_config.specs.Building.{floor_fits}
use Rattle.floor_config.proofs.building.all_floors_fit.Given as goal

abbrev pub invariant-loop-floor : goal.invariant-loop-floor
invariant-loop-floor l = record {
  pass : list_all floor_fits (take l.floor-index l.floors) ≡ true;
  fits : All (λ u. IsFloor u) (take l.floor-index l.floors);
}
