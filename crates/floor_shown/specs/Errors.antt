-- Which error a refusal becomes, and what that is about.
use Rattle.std.specs.Prelude.{◌≡◌, ◌==◌, ℕ, Bool, true, false, if◌then◌else◌}
use Rattle.floor_machine.specs.declared.machine.Refusal.{Refusal}
use Rattle.floor_machine.specs.declared.machine.Refusal.TheVariants as machine
use Rattle.floor_room.specs.declared.refusal.RoomRefusal.TheVariants as room
use Rattle.floor_hub.specs.Names as names
use Rattle.floor_hub.specs.declared.refusal.HubRefusal.{HubRefusal}
use Rattle.floor_hub.specs.declared.refusal.HubRefusal.TheVariants as hub
use Rattle.floor_rpc.specs.Errors as errors
use Rattle.floor_rpc.specs.declared.error.ErrorName.{ErrorName}
use Rattle.floor_rpc.specs.declared.error.ErrorName.TheVariants as error
use Rattle.floor_rpc.specs.declared.failure.About.{About}
use Rattle.floor_rpc.specs.declared.failure.About.TheVariants.{Conference}

-- A refusal of the hub's is the error of its name; but that nobody has a connection's number is that there is no such member, and that what is said isn't one
-- message, which doesn't come about, that it isn't the time for it.
abbrev pub IsErrorOf : HubRefusal → ErrorName → Type 0
IsErrorOf hub.NoConnection e = e ≡ error.NoMember
IsErrorOf hub.BadMessage e = e ≡ error.NotNow
IsErrorOf refusal e = errors.name_of e ≡ names.name_of refusal

-- the machine refuses what was asked, and not the conference
abbrev pub is_of_asked : Refusal → Bool
is_of_asked machine.NoMember = true
is_of_asked machine.NoUser = true
is_of_asked machine.NoRequest = true
is_of_asked machine.OutOfRange = true
is_of_asked machine.DoubleUser = true
is_of_asked machine.DoubleFloor = true
is_of_asked machine.NoFloor = true
is_of_asked machine.UnknownChair = true
is_of_asked _ = false

-- what a refusal is about: what was asked, where that is refused, else the conference
abbrev pub about_refusal : ℕ → About → HubRefusal → About
about_refusal conference asked (hub.ByRoom (room.Refused refusal)) = if is_of_asked refusal then asked else Conference conference
about_refusal conference asked _ = Conference conference

-- the error of an error code (RFC 8855, section 5.2.6): user, operation, floor, floor request, their number, and all others
abbrev pub name_of : ℕ → ErrorName
name_of code =
    if code == 2 then error.NoUser else
    (if code == 5 then error.Unauthorized else
    (if code == 6 then error.NoFloor else
    (if code == 7 then error.NoRequest else
    (if code == 8 then error.TooManyRequests else error.NotNow))))
