-- What stays when empty texts count as absent.
use Rattle.std.proofs.Common.{◌≡◌, ℕ, suc, ◌≤◌, true, List, [], ◌∷◌, length, map, refl, ap, All}
use Rattle.std.proofs.lemmas.List.Elements.{All-map}
use Rattle.floor_config.specs.declared.users.User.{User}
use Rattle.floor_config.specs.declared.floors.Floor.{Floor}
use Rattle.floor_config.specs.Doubles.{AllDiffer}
use Rattle.floor_config.specs.Configuration.{IsConfiguration, IsUser, IsFloor, user_ids, floor_ids}
use Rattle.floor_config.specs.Limits.{chairs_are_known}
use Rattle.floor_config.specs.Building.{without_empty_texts}
use Rattle.floor_config.proofs.Limits.{chairs_known}

pub user_ids-plain : (users : List User) → user_ids (map without_empty_texts users) ≡ user_ids users
user_ids-plain [] = refl
user_ids-plain (u ∷ users) = ap (λ (ids : List ℕ). u.id ∷ ids) (user_ids-plain users)

length-plain : (users : List User) → length (map without_empty_texts users) ≡ length users
length-plain [] = refl
length-plain (u ∷ users) = ap suc (length-plain users)

-- values that pass the tests make a configuration, of whose users an empty text counts as absent
pub IsConfiguration-plain : (conference limit connections : ℕ) (users : List User) (floors : List Floor)
    → conference ≤ 4294967295 → 1 ≤ limit → limit ≤ 16 → 1 ≤ connections → connections ≤ 64
    → length users ≤ 256 → All (λ u. IsUser (without_empty_texts u)) users → AllDiffer (user_ids users)
    → length floors ≤ 32 → All IsFloor floors → AllDiffer (floor_ids floors) → chairs_are_known users floors ≡ true
    → IsConfiguration record { conference = conference; limit = limit; connections = connections; users = map without_empty_texts users; floors = floors }
IsConfiguration-plain conference limit connections users floors id least most conn_least conn_most few fit differ few_floors floors_fit floors_differ known =
    record {
      conference = id;
      limit_least = least;
      limit_most = most;
      connections_least = conn_least;
      connections_most = conn_most;
      users_count = rw (length-plain users) few;
      users = All-map IsUser without_empty_texts users fit;
      users_differ = rw (user_ids-plain users) differ;
      floors_count = few_floors;
      floors = floors_fit;
      floors_differ = floors_differ;
      chairs = rw (user_ids-plain users) (chairs_known users floors known);
    }
