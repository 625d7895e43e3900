-- The parts of a conference's table: what stands at its keys, before it is tested.
use Rattle.std.specs.Prelude.{◌≡◌, ℕ, false, codes, List, [], Option, Some, None, unwrap_or, Result, Ok}
use Rattle.toml.specs.Data.{Data, Members, as_str, get_member}
use Rattle.floor_config.specs.declared.fault.ConfigFault.{ConfigFault}
use Rattle.floor_config.specs.declared.users.User.{User}
use Rattle.floor_config.specs.declared.floors.Floor.{Floor}
use Rattle.floor_config.specs.Building.{built}
use Rattle.floor_config.specs.Configuration.{Configuration}
use Rattle.floor_config.specs.Outcome.{◌>>=◌}
use Rattle.floor_config.specs.Reading.{all_of, conference_of}
use Rattle.floor_config.specs.Values.{number_of, flag_of, of_kind, tables_of, needed, optional}

-- a text of any length
abbrev pub any_text : Data → Result (List ℕ) ConfigFault
any_text value = of_kind (as_str value)

-- a number of 16 bits
abbrev pub short : Data → Result ℕ ConfigFault
short = number_of 0 65535

-- a user with texts of any length and any port of 16 bits
unfoldable pub user_part : Members → Result User ConfigFault
user_part table = do
  id ← needed short (get_member (codes "id") table)
  name ← optional any_text (get_member (codes "name") table)
  uri ← optional any_text (get_member (codes "uri") table)
  proxy ← optional flag_of (get_member (codes "proxy") table)
  port ← optional short (get_member (codes "port") table)
  Ok (record { id = id; name = name; uri = uri; proxy = unwrap_or proxy false; port = port })

-- a floor with any room of 16 bits; an absent one is 1
unfoldable pub floor_part : Members → Result Floor ConfigFault
floor_part table = do
  id ← needed short (get_member (codes "id") table)
  room ← optional short (get_member (codes "room") table)
  chair ← optional short (get_member (codes "chair") table)
  Ok (record { id = id; room = unwrap_or room 1; chair = chair })

-- any number of tables, each a part
abbrev pub parts_at : {A : Type 0} → (Members → Result A ConfigFault) → Option Data → Result (List A) ConfigFault
parts_at read None = Ok []
parts_at read (Some value) = tables_of value >>= all_of read

-- the parts of a conference: an absent limit is 4, and absent connections are 64
unfoldable pub parts_of : Members → Result Configuration ConfigFault
parts_of table = do
  conference ← needed (number_of 0 4294967295) (get_member (codes "id") table)
  limit ← optional short (get_member (codes "limit") table)
  connections ← optional short (get_member (codes "connections") table)
  users ← parts_at user_part (get_member (codes "user") table)
  floors ← parts_at floor_part (get_member (codes "floor") table)
  Ok (record { conference = conference; limit = unwrap_or limit 4; connections = unwrap_or connections 64; users = users; floors = floors })

-- What a table with such parts is read as is what is built of them: the same configuration, or the same first fault.
abbrev pub ReadIsBuilt : Type 0
ReadIsBuilt = (table : Members) (parts : Configuration) → parts_of table ≡ Ok parts
    → conference_of table ≡ built parts.conference parts.limit parts.connections parts.users parts.floors
