-- The configuration for demonstrations keeps the limits.
use Rattle.std.proofs.Common.{refl, arith, ℕ, ◌≤◌}
use Rattle.std.proofs.lemmas.List.Elements.{All-from_recursion}
use Rattle.floor_config.specs.Configuration.{IsConfiguration, IsUser, IsFloor, user_ids, floor_ids}
use Rattle.floor_config.specs.Demonstration.{demonstration, bare_user}
use Rattle.floor_config.proofs.StandingTwice.{AllDiffer_none}
use Rattle.floor_config.proofs.Limits.{chairs_known}

bare : (id : ℕ) → id ≤ 65535 → IsUser (bare_user id)
bare id range = record { id = range; name = tt; uri = tt; port = tt }

pub demonstration_keeps : IsConfiguration demonstration
demonstration_keeps = record {
  conference = omega arith;
  limit_least = omega arith;
  limit_most = omega arith;
  connections_least = omega arith;
  connections_most = omega arith;
  users_count = omega arith;
  users = All-from_recursion IsUser demonstration.users (bare 10 (omega arith), (bare 11 (omega arith), (bare 12 (omega arith), tt)));
  users_differ = AllDiffer_none (user_ids demonstration.users) refl;
  floors_count = omega arith;
  floors = All-from_recursion IsFloor demonstration.floors (record { id = omega arith; room_least = omega arith; room_most = omega arith }, tt);
  floors_differ = AllDiffer_none (floor_ids demonstration.floors) refl;
  chairs = chairs_known demonstration.users demonstration.floors refl;
}
