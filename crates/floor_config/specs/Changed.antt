-- A configuration that is changed while its conference runs: a user more, a floor more, a floor with another chair or none.
use Rattle.std.specs.Prelude.{◌≡◌, ℕ, ◌==◌, ◌&&◌, ◌++◌, Bool, nat_le, nat_lt, [], ◌∷◌, length, map, Option, Some, None, Result, Ok, Err, if◌then◌else◌}
use Rattle.floor_config.specs.declared.fault.ConfigFault.{ConfigFault}
use Rattle.floor_config.specs.declared.fault.ConfigFault.TheVariants.{OutOfRange, DoubleUser, DoubleFloor, NoFloor, UnknownChair, Memory}
use Rattle.floor_config.specs.declared.users.User.{User}
use Rattle.floor_config.specs.declared.floors.Floor.{Floor}
use Rattle.floor_config.specs.Configuration.{Configuration}
use Rattle.floor_config.specs.Lookup.{is_floor, is_user}
use Rattle.floor_config.specs.Limits.{is_known}
use Rattle.floor_config.specs.Building.{floor_fits, text_fits, without_empty_texts}

-- the user as it is added: without a port, and with an empty text as none
abbrev pub added_user : User → User
added_user user = record (without_empty_texts user) { port = None }

-- the configuration with the user behind its users
abbrev pub with_user : Configuration → User → Configuration
with_user config user = record config { users = config.users ++ added_user user ∷ [] }

-- the configuration with the floor behind its floors
abbrev pub with_floor : Configuration → Floor → Configuration
with_floor config floor = record config { floors = config.floors ++ floor ∷ [] }

-- the floor, which has this chair, or none, if it is the one with this id
abbrev pub chaired : ℕ → Option ℕ → Floor → Floor
chaired id chair floor = if floor.id == id then record floor { chair = chair } else floor

-- the configuration in which the floor with this id has this chair, or none
abbrev pub with_chair : Configuration → ℕ → Option ℕ → Configuration
with_chair config id chair = record config { floors = map (chaired id chair) config.floors }

-- the user has an id of 16 bits, and a name of at most 30 bytes and a URI of at most 62, where it has them
abbrev pub user_is_within : User → Bool
user_is_within user = nat_le user.id 65535 && (text_fits 30 user.name && text_fits 62 user.uri)

-- the floor has an id of 16 bits and room for 1 to 255 floor requests
abbrev pub floor_is_within : Floor → Bool
floor_is_within floor = nat_le floor.id 65535 && floor_fits floor

-- why the user may not be added, unless it may
abbrev pub user_fault : Configuration → User → Option ConfigFault
user_fault config user =
    if nat_lt (length config.users) 256 && user_is_within user then (if is_user config user.id then Some DoubleUser else None) else Some OutOfRange

-- why the chair may not be had by a floor of the configuration, unless it may
abbrev pub unknown_chair : Configuration → Option ℕ → Option ConfigFault
unknown_chair config chair = if is_known config.users chair then None else Some UnknownChair

-- why the floor may not be added, unless it may
abbrev pub floor_fault : Configuration → Floor → Option ConfigFault
floor_fault config floor =
    if nat_lt (length config.floors) 32 && floor_is_within floor then (if is_floor config.floors floor.id then Some DoubleFloor else unknown_chair config floor.chair) else Some OutOfRange

-- why the chair may not be set, unless it may
abbrev pub chair_fault : Configuration → ℕ → Option ℕ → Option ConfigFault
chair_fault config id chair = if is_floor config.floors id then unknown_chair config chair else Some NoFloor

-- the call is refused by this fault; without one it is done, or memory was refused
abbrev pub IsRefusedBy : Option ConfigFault → Result (Unit {0}) ConfigFault → Type 0
IsRefusedBy (Some fault) result = result ≡ Err fault
IsRefusedBy None (Ok x) = Unit {0}
IsRefusedBy None (Err fault) = fault ≡ Memory

-- the call is refused by this fault, and done without one
abbrev pub unless_refused : Option ConfigFault → Result (Unit {0}) ConfigFault
unless_refused None = Ok tt
unless_refused (Some fault) = Err fault
