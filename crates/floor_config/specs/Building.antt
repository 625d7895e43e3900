-- The configuration of one conference that is built of values, or the first fault.
use Rattle.std.specs.Prelude.{◌≡◌, ℕ, Bool, true, false, not, ◌&&◌, nat_le, List, length, map, Option, Some, None, option_and_then, Result, Ok, Err}
use Rattle.std.specs.List.{list_all}
use Rattle.floor_config.specs.declared.fault.ConfigFault.{ConfigFault}
use Rattle.floor_config.specs.declared.fault.ConfigFault.TheVariants.{OutOfRange, DoubleUser, DoubleFloor, UnknownChair}
use Rattle.floor_config.specs.declared.users.User.{User}
use Rattle.floor_config.specs.declared.floors.Floor.{Floor}
use Rattle.floor_config.specs.Doubles.{has_double}
use Rattle.floor_config.specs.Configuration.{Configuration, IsConfiguration, user_ids, floor_ids}
use Rattle.floor_config.specs.Outcome.{◌>>=◌}
use Rattle.floor_config.specs.Limits.{is_within, unless_empty, chairs_are_known}

-- there is no text, or it has at most so many bytes
abbrev pub text_fits : ℕ → Option (List ℕ) → Bool
text_fits most None = true
text_fits most (Some text) = nat_le (length text) most

-- there is no port, or one from 1 on
abbrev pub port_fits : Option ℕ → Bool
port_fits None = true
port_fits (Some port) = nat_le 1 port

-- the user's texts and port are within their ranges
abbrev pub user_fits : User → Bool
user_fits u = text_fits 30 u.name && (text_fits 62 u.uri && port_fits u.port)

-- the floor's room is within its range
abbrev pub floor_fits : Floor → Bool
floor_fits f = is_within 1 255 f.room

-- at most 256 users, each within its ranges
abbrev pub users_fit : List User → Bool
users_fit users = nat_le (length users) 256 && list_all user_fits users

-- at most 32 floors, each within its ranges
abbrev pub floors_fit : List Floor → Bool
floors_fit floors = nat_le (length floors) 32 && list_all floor_fits floors

-- the user, of whom an empty text counts as absent
abbrev pub without_empty_texts : User → User
without_empty_texts u = record u { name = option_and_then unless_empty u.name; uri = option_and_then unless_empty u.uri }

-- the fault, unless the test holds
abbrev pub unless : Bool → ConfigFault → Result Bool ConfigFault
unless true fault = Ok true
unless false fault = Err fault

-- the configuration of these values, if they pass each test; the first that they don't pass is the fault
unfoldable pub built : ℕ → ℕ → ℕ → List User → List Floor → Result Configuration ConfigFault
built conference limit connections users floors = do
  limit_fits ← unless (is_within 1 16 limit) OutOfRange
  connections_fit ← unless (is_within 1 64 connections) OutOfRange
  users_fit ← unless (users_fit users) OutOfRange
  users_differ ← unless (not (has_double (user_ids users))) DoubleUser
  floors_fit ← unless (floors_fit floors) OutOfRange
  floors_differ ← unless (not (has_double (floor_ids floors))) DoubleFloor
  chairs_known ← unless (chairs_are_known users floors) UnknownChair
  Ok (record { conference = conference; limit = limit; connections = connections; users = map without_empty_texts users; floors = floors })

-- each configuration that keeps the limits is built of its own parts, as it is
abbrev pub KeptIsBuilt : Type 0
KeptIsBuilt = (c : Configuration) → IsConfiguration c → built c.conference c.limit c.connections c.users c.floors ≡ Ok c
