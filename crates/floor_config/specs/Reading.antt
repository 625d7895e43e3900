-- The configurations of a TOML document, key by key, or the first fault.
use Rattle.std.specs.Prelude.{ℕ, false, codes, List, [], ◌∷◌, map, filter_map, flat_map, Option, Some, None, unwrap_or, Result, Ok, Err, if◌then◌else◌}
use Rattle.toml.specs.Data.{Members, Data, get_member}
use Rattle.toml.specs.Parse.{parse_document}
use Rattle.floor_config.specs.declared.fault.ConfigFault.{ConfigFault}
use Rattle.floor_config.specs.declared.fault.ConfigFault.TheVariants.{Syntax, DoubleUser, DoubleFloor, UnknownChair, DoubleConference, DoublePort}
use Rattle.floor_config.specs.declared.users.User.{User}
use Rattle.floor_config.specs.declared.floors.Floor.{Floor}
use Rattle.floor_config.specs.Doubles.{has_double}
use Rattle.floor_config.specs.Configuration.{Configuration, user_ids, floor_ids}
use Rattle.floor_config.specs.Outcome.{◌>>=◌}
use Rattle.floor_config.specs.Limits.{chairs_are_known}
use Rattle.floor_config.specs.Values.{number_of, flag_of, tables_of, few_tables_of, needed, optional, optional_text}

-- the user of a table: the keys id, name, uri, proxy and port, of which all but the id may be absent
unfoldable pub user_of : Members → Result User ConfigFault
user_of table = do
  id ← needed (number_of 0 65535) (get_member (codes "id") table)
  name ← optional_text 30 (get_member (codes "name") table)
  uri ← optional_text 62 (get_member (codes "uri") table)
  proxy ← optional flag_of (get_member (codes "proxy") table)
  port ← optional (number_of 1 65535) (get_member (codes "port") table)
  Ok (record { id = id; name = name; uri = uri; proxy = unwrap_or proxy false; port = port })

-- the floor of a table: the keys id, room and chair, where an absent room is 1
unfoldable pub floor_of : Members → Result Floor ConfigFault
floor_of table = do
  id ← needed (number_of 0 65535) (get_member (codes "id") table)
  room ← optional (number_of 1 255) (get_member (codes "room") table)
  chair ← optional (number_of 0 65535) (get_member (codes "chair") table)
  Ok (record { id = id; room = unwrap_or room 1; chair = chair })

-- what is read of each table, in order
unfoldable pub all_of : {A : Type 0} → (Members → Result A ConfigFault) → List Members → Result (List A) ConfigFault
all_of read [] = Ok []
all_of read (table ∷ tables) = do
  first ← read table
  others ← all_of read tables
  Ok (first ∷ others)

-- the value, unless one of the numbers stands twice
abbrev pub unless_double : {A : Type 0} → ConfigFault → List ℕ → A → Result A ConfigFault
unless_double fault numbers x = if has_double numbers then Err fault else Ok x

-- the users at the key user: at most 256, no two with one id
unfoldable pub users_of : Option Data → Result (List User) ConfigFault
users_of None = Ok []
users_of (Some value) = do
  tables ← few_tables_of 256 value
  users ← all_of user_of tables
  unless_double DoubleUser (user_ids users) users

-- the floors at the key floor: at most 32, no two with one id
unfoldable pub floors_of : Option Data → Result (List Floor) ConfigFault
floors_of None = Ok []
floors_of (Some value) = do
  tables ← few_tables_of 32 value
  floors ← all_of floor_of tables
  unless_double DoubleFloor (floor_ids floors) floors

-- the conference of a table: the keys id, limit, connections, user and floor, where an absent limit is 4, absent connections are 64, and each chair is one of the users
unfoldable pub conference_of : Members → Result Configuration ConfigFault
conference_of table = do
  conference ← needed (number_of 0 4294967295) (get_member (codes "id") table)
  limit ← optional (number_of 1 16) (get_member (codes "limit") table)
  connections ← optional (number_of 1 64) (get_member (codes "connections") table)
  users ← users_of (get_member (codes "user") table)
  floors ← floors_of (get_member (codes "floor") table)
  if chairs_are_known users floors then Ok (record { conference = conference; limit = unwrap_or limit 4; connections = unwrap_or connections 64; users = users; floors = floors }) else Err UnknownChair

-- the Conference IDs, in the order of the text
abbrev pub conference_ids : List Configuration → List ℕ
conference_ids = map (λ c. c.conference)

-- the ports of all users, in the order of the text
abbrev pub ports : List Configuration → List ℕ
ports configs = flat_map (λ c. filter_map (λ u. u.port) c.users) configs

-- the conferences at the key conference, no two with one id, and no two users of them all with one port
unfoldable pub conferences_of : Members → Result (List Configuration) ConfigFault
conferences_of table = do
  tables ← needed tables_of (get_member (codes "conference") table)
  configs ← all_of conference_of tables
  others ← unless_double DoubleConference (conference_ids configs) configs
  unless_double DoublePort (ports others) others

-- the configurations of a document, where the text is one
abbrev pub of_document : Option Members → Result (List Configuration) ConfigFault
of_document None = Err Syntax
of_document (Some table) = conferences_of table

-- the configurations of a text in TOML
abbrev pub reading : List ℕ → Result (List Configuration) ConfigFault
reading text = of_document (parse_document text)
