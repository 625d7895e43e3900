-- The configuration for demonstrations.
use Rattle.std.specs.Prelude.{ℕ, false, [], ◌∷◌, None}
use Rattle.floor_config.specs.declared.users.User.{User}
use Rattle.floor_config.specs.Configuration.{Configuration}

-- the user with this id, without a name, a URI, a proxy mark and a port
abbrev pub bare_user : ℕ → User
bare_user id = record { id = id; name = None; uri = None; proxy = false; port = None }

-- conference 1 with limit 4 and 64 connections of a user, the bare users 10, 11 and 12, and floor 1 with room for one floor request and no chair
abbrev pub demonstration : Configuration
demonstration = record {
  conference = 1;
  limit = 4;
  connections = 64;
  users = bare_user 10 ∷ bare_user 11 ∷ bare_user 12 ∷ [];
  floors = record { id = 1; room = 1; chair = None } ∷ [];
}
