-- Why a member whose connection was lost doesn't stay.
use Rattle.std.specs.Prelude.{◌≡◌, ◌⊎◌, ℕ, Bool, true, false, Some, None}
use Rattle.floor_room.specs.Room.{Room}
use Rattle.floor_hub.specs.declared.connection.Connection.{Connection}
use Rattle.floor_hub.specs.Connections.{connection_at}
use Rattle.floor_hub.specs.Hub.{Hub, room_at}
use Rattle.floor_hub.specs.Members.{user_of}
use Rattle.floor_loop.specs.declared.stay.Lost.{Lost}
use Rattle.floor_loop.specs.declared.stay.Lost.TheVariants.{Stays, Leaves, Memory}
use Rattle.floor_loop.specs.Loop.{Attended, Outgoing, outgoing_in}
use Rattle.floor_loop.specs.Written.{IsOver}

abbrev pub is_away : Lost → Bool
is_away Stays = true
is_away Leaves = false
is_away Memory = false

-- the journal of its conference has no Join of it
abbrev pub HasNoUser : Hub → ℕ → Type 0
HasNoUser hub number = (x : Connection) (r : Room) → connection_at hub.connections number ≡ Some x → room_at hub x.conference ≡ Some r → user_of r.ledger.journal x.n ≡ None

-- nothing more is told to it
abbrev pub IsOverIn : Hub → Attended → ℕ → Type 0
IsOverIn hub a number =
    (x : Connection) (r : Room) (o : Outgoing) → connection_at hub.connections number ≡ Some x → room_at hub x.conference ≡ Some r → outgoing_in a number ≡ Some o → o.conference ≡ x.conference → IsOver r x.n

-- it may not stay
abbrev pub CannotStay : Hub → Attended → ℕ → Type 0
CannotStay hub a number = (a.away.grace.lost ≡ 0) ⊎ (IsOverIn hub a number ⊎ HasNoUser hub number)
