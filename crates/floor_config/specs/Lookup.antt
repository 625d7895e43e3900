-- What is asked of a configuration: its users, its floors and their chairs (RFC 8855, sections 2, 10.1.1 and 11).
use Rattle.std.specs.Prelude.{ℕ, ◌==◌, ◌&&◌, Bool, false, List, find, Option, is_some}
use Rattle.std.specs.List.{list_any}
use Rattle.std.specs.Option.{option_map_or}
use Rattle.floor_config.specs.Configuration.{Configuration}
use Rattle.floor_config.specs.declared.users.User.{User}
use Rattle.floor_config.specs.declared.floors.Floor.{Floor}

-- the user with this User ID
abbrev pub user_with : Configuration → ℕ → Option User
user_with config id = find (λ user. user.id == id) config.users

-- the configuration has a user with this User ID
abbrev pub is_user : Configuration → ℕ → Bool
is_user config id = is_some (user_with config id)

-- the user may ask for others (section 10.1.1: on behalf of a third party)
abbrev pub has_proxy : Configuration → ℕ → Bool
has_proxy config id = option_map_or (λ user. user.proxy) (user_with config id) false

-- the conference has the floor
abbrev pub is_floor : List Floor → ℕ → Bool
is_floor floors floor = list_any (λ f. f.id == floor) floors

-- the floor has this chair (section 11)
abbrev pub chair_is : Configuration → ℕ → ℕ → Bool
chair_is config floor user = list_any (λ f. f.id == floor && option_map_or (λ chair. chair == user) f.chair false) config.floors
