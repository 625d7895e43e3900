-- The configuration of one conference, as contracts see it (RFC 8855, sections 2 and 3.1).
use Rattle.std.specs.Prelude.{ℕ, ◌≤◌, List, length, map, All, Contains, IfSome}
use Rattle.floor_config.specs.Doubles.{AllDiffer}
use Rattle.floor_config.specs.declared.users.User.{User}
use Rattle.floor_config.specs.declared.floors.Floor.{Floor}

-- a conference, how many ongoing floor requests each user may have for one floor, how many connections each user may have at once, its users and its floors
pub record Configuration : Type 0 where
  pub conference : ℕ
  pub limit : ℕ
  pub connections : ℕ
  pub users : List User
  pub floors : List Floor

-- the User IDs, in the order of the users (section 5.1)
abbrev pub user_ids : List User → List ℕ
user_ids = map (λ u. u.id)

-- the Floor IDs, in the order of the floors (section 5.2.2)
abbrev pub floor_ids : List Floor → List ℕ
floor_ids = map (λ f. f.id)

-- the user has an id of 16 bits, a name of 1 to 30 bytes or none, a URI of 1 to 62 bytes or none, and a port of 1 to 65535 or none
pub record IsUser (u : User) : Type 0 where
  pub id : u.id ≤ 65535
  pub name : IfSome u.name (λ text. (1 ≤ length text) × (length text ≤ 30))
  pub uri : IfSome u.uri (λ text. (1 ≤ length text) × (length text ≤ 62))
  pub port : IfSome u.port (λ port. (1 ≤ port) × (port ≤ 65535))

-- the floor has an id of 16 bits and room for 1 to 255 floor requests
pub record IsFloor (f : Floor) : Type 0 where
  pub id : f.id ≤ 65535
  pub room_least : 1 ≤ f.room
  pub room_most : f.room ≤ 255

-- The conference has an id of 32 bits, a limit of 1 to 16, 1 to 64 connections of a user, at most 256 users and 32 floors, no two users and no two floors with one id, and each floor's chair, if it has one, is one of the users.
pub record IsConfiguration (c : Configuration) : Type 0 where
  pub conference : c.conference ≤ 4294967295
  pub limit_least : 1 ≤ c.limit
  pub limit_most : c.limit ≤ 16
  pub connections_least : 1 ≤ c.connections
  pub connections_most : c.connections ≤ 64
  pub users_count : length c.users ≤ 256
  pub users : All IsUser c.users
  pub users_differ : AllDiffer (user_ids c.users)
  pub floors_count : length c.floors ≤ 32
  pub floors : All IsFloor c.floors
  pub floors_differ : AllDiffer (floor_ids c.floors)
  pub chairs : All (λ f. IfSome f.chair (Contains (user_ids c.users))) c.floors
