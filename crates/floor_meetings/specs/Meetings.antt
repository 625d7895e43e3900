-- Sockets that are members', as contracts see them: by their slots.
use Rattle.std.specs.Prelude.{◌≡◌, ℕ, List, [], Option, Some, None, take, option_and_then}
use Rattle.std.specs.Option.{option_map_or}
use Rattle.floor_room.specs.Room.{Room}
use Rattle.floor_hub.specs.Connections.{connection_at}
use Rattle.floor_hub.specs.Hub.{room_at}
use Rattle.floor_hub.specs.declared.connection.Connection.{Connection}
use Rattle.floor_loop.specs.Loop.{Loop, rest_at, until_at}
use Rattle.floor_loop.specs.Written.{Follow}
use Rattle.floor_meetings.specs.declared.meetings.Meetings.{Meetings}
use Rattle.floor_meetings.specs.declared.meetings.Due.{Due}
use Rattle.floor_meetings.specs.declared.meetings.Due.TheVariants as due
use Rattle.floor_meetings.specs.declared.meetings.Ready.{Ready}
use Rattle.floor_meetings.specs.declared.meetings.Ready.TheVariants as ready
use Rattle.floor_meetings.specs.declared.members.Member.{Member}
use Rattle.floor_meetings.specs.Members.{member_in}

-- the member in the slot
abbrev pub member_at : Meetings → ℕ → Option Member
member_at m slot = member_in m.members slot

-- what is lent to be written to the socket in the slot: what the loop has on its way to its member, 64 KiB at most, and nothing without a member
abbrev pub lent_at : Meetings → ℕ → List ℕ
lent_at m slot = option_map_or (λ x. take 65536 (rest_at m.hub x.number)) (member_at m slot) []

-- These bytes follow, in what the floor machine of the member's conference calls for at it, what its socket took.
abbrev pub AreCalledFor : Loop → ℕ → List ℕ → Type 0
AreCalledFor l number bytes =
    (x : Connection) (r : Room) → connection_at l.hub.connections number ≡ Some x → room_at l.hub x.conference ≡ Some r → Follow r x.n (rest_at l number) bytes

-- by when the socket in the slot is to be shut down, where it is to be
abbrev pub shut_by : Meetings → ℕ → Option ℕ
shut_by m slot = option_and_then (λ x. until_at m.hub x.number) (member_at m slot)

-- a connection, as it is named: by its slot, or by its number where it has none, since its member is away
abbrev pub ready_as : Option ℕ → ℕ → Ready
ready_as None number = ready.Away number
ready_as (Some slot) number = ready.Member slot

abbrev pub due_as : Option ℕ → ℕ → Due
due_as None number = due.Away number
due_as (Some slot) number = due.Member slot
