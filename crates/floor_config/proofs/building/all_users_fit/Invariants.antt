use Rattle.std.proofs.Common.{◌≡◌, true, take, All}
use Rattle.std.specs.List.{list_all}
use Rattle.floor_config.specs.Configuration.{IsUser}
use Rattle.floor_config.specs.Building.{user_fits, without_empty_texts}
use Rattle.floor_config.proofs.building.all_users_fit.Given as goal

abbrev pub invariant-loop-user : goal.invariant-loop-user
invariant-loop-user l = record {
  pass : list_all user_fits (take l.user-index l.users) ≡ true;
  fits : All (λ u. IsUser (without_empty_texts u)) (take l.user-index l.users);
}
