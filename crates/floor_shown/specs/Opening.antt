-- A conference that is opened, and what that is answered by.
use Rattle.std.specs.Prelude.{ℕ, map, unwrap_or}
use Rattle.floor_config.specs.Configuration.{Configuration}
use Rattle.floor_config.specs.declared.floors.Floor.{Floor}
use Rattle.floor_config.specs.declared.users.User.{User}
use Rattle.floor_rpc.specs.declared.answer.Opened.{Opened}
use Rattle.floor_rpc.specs.declared.call.NewFloor.{NewFloor}
use Rattle.floor_rpc.specs.declared.call.NewUser.{NewUser}

-- a user and a floor that are given, under a number; of a floor one floor request is a holder at a time, where it isn't said
abbrev pub user_of : ℕ → NewUser → User
user_of id user = record { id = id; name = user.name; uri = user.uri; proxy = user.proxy; port = user.port }

abbrev pub floor_of : ℕ → NewFloor → Floor
floor_of id floor = record { id = id; room = unwrap_or floor.room 1; chair = floor.chair }

-- its number, and those of its users and floors, in their order
abbrev pub opened_of : Configuration → Opened
opened_of config = record { conference = config.conference; users = map (λ user. user.id) config.users; floors = map (λ floor. floor.id) config.floors }
