use Rattle.std.proofs.Common.{◌≡◌, ◌++◌, map, take, drop}
use Rattle.floor_config.specs.Building.{without_empty_texts}
use Rattle.floor_config.proofs.building.without_empty_texts.Given as goal

abbrev pub invariant-loop-user : goal.invariant-loop-user
invariant-loop-user l = l.user-items ≡ map without_empty_texts (take l.user-index l.fn.users) ++ drop l.user-index l.fn.users
