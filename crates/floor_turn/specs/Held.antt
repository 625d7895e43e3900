-- Of a conference that is held no event is taken, but for acknowledgements and for what its caller asks of it.
use Rattle.std.specs.Prelude.{◌≡◌, ℕ, Bool, false, List, [], ◌∷◌, IfSome, None, Option, Some}
use Rattle.floor_hub.specs.Connections.{connection_at}
use Rattle.floor_hub.specs.declared.connection.Connection.{Connection}
use Rattle.floor_meetings.specs.declared.meetings.Meetings.{Meetings}
use Rattle.floor_meetings.specs.declared.members.Member.{Member}
use Rattle.floor_meetings.specs.Meetings.{member_at}
use Rattle.floor_meetings.specs.Runs.{Call, Open, Forget, Acts, Says, Keep, MakeRoom, Join, Refused, Came, Ended, Failed, Left, Took, Ready, Due, Discard, LeaveAway, LeaveAt, bytes_by}
use Rattle.floor_connections.specs.Conferences.{is_held}
use Rattle.floor_connections.specs.Table.{listener_of, socket_at}
use Rattle.floor_connections.specs.declared.conferences.Conferences.{Conferences}
use Rattle.floor_connections.specs.declared.deed.Deed.{Deed}
use Rattle.floor_connections.specs.declared.deed.Deed.TheVariants as deed
use Rattle.floor_connections.specs.declared.place.Place.{Place}
use Rattle.floor_connections.specs.declared.place.Place.TheVariants as place
use Rattle.floor_connections.specs.declared.table.Listener.{Listener}
use Rattle.floor_connections.specs.declared.table.Table.{Table}
use Rattle.floor_turn.specs.Moves.{Leads}

-- the member is of a conference that is held
abbrev pub is_held_for : Conferences → Option Member → Bool
is_held_for cs None = false
is_held_for cs (Some m) = is_held cs m.conference

-- the place is a port of one
abbrev pub is_held_place : Conferences → Place → Bool
is_held_place cs (place.Port conference user port) = is_held cs conference
is_held_place cs (place.Door named_by port) = false
is_held_place cs (place.Health port) = false
is_held_place cs place.Control = false
is_held_place cs place.Observe = false

-- the listener is
abbrev pub is_held_listener : Conferences → Option Listener → Bool
is_held_listener cs None = false
is_held_listener cs (Some l) = is_held_place cs l.place

-- The connection with this number isn't of one.
abbrev pub IsFree : Conferences → Meetings → ℕ → Type 0
IsFree cs m number = (x : Connection) → connection_at m.hub.hub.connections number ≡ Some x → is_held cs x.conference ≡ false

-- The call takes no event of a conference that is held, but for an acknowledgement.
abbrev pub Spares : Conferences → Call → Meetings → Type 0
Spares cs (Open config) m = Unit {0}
Spares cs Forget m = Unit {0}
Spares cs (Acts conference act) m = is_held cs conference ≡ false
Spares cs (Says conference user bytes) m = is_held cs conference ≡ false
Spares cs Keep m = Unit {0}
Spares cs (MakeRoom gone) m = IfSome gone (IsFree cs m)
Spares cs (Join slot conference user) m = is_held cs conference ≡ false
Spares cs (Refused conference user r) m = is_held cs conference ≡ false
Spares cs (Came slot bytes r) m = is_held_for cs (member_at m slot) ≡ false
Spares cs (Ended slot) m = is_held_for cs (member_at m slot) ≡ false
Spares cs (Failed slot) m = is_held_for cs (member_at m slot) ≡ false
Spares cs (Left slot now r) m = is_held_for cs (member_at m slot) ≡ false
Spares cs (Took slot bytes) m = Unit {0}
Spares cs Ready m = Unit {0}
Spares cs (Due now) m = Unit {0}
Spares cs (Discard number) m = Unit {0}
Spares cs (LeaveAway number) m = IsFree cs m number
Spares cs (LeaveAt slot) m = is_held_for cs (member_at m slot) ≡ false

-- so each of these
abbrev pub SparesBy : Conferences → (calls : List Call) → (first last : Meetings) → Leads calls first last → Type 0
SparesBy cs [] first last lead = Unit {0}
SparesBy cs (c ∷ calls) first last lead = Spares cs c first × SparesBy cs calls lead.0 last lead.2

-- Such calls led from one value to the other, and by them no socket took any bytes.
pub record MovesFree (cs : Conferences) (old new : Meetings) : Type 0 where
  pub calls : List Call
  pub lead : Leads calls old new
  pub took : (slot : ℕ) → bytes_by slot calls ≡ []
  pub spared : SparesBy cs calls old new lead

-- The deed reads or accepts nobody of a conference that is held.
abbrev pub IsOffered : Conferences → Table → Meetings → Deed → Type 0
IsOffered cs t m (deed.Read socket) = is_held_for cs (member_at m socket) ≡ false
IsOffered cs t m (deed.Accept listener) = is_held_listener cs (listener_of (socket_at t listener)) ≡ false
IsOffered cs t m (deed.Listen listener at) = Unit {0}
IsOffered cs t m (deed.Unlisten listener) = Unit {0}
IsOffered cs t m (deed.Write socket) = Unit {0}
IsOffered cs t m (deed.Shut socket) = Unit {0}
IsOffered cs t m (deed.Serve socket) = Unit {0}
IsOffered cs t m (deed.Log entry) = Unit {0}
IsOffered cs t m deed.Turn = Unit {0}
IsOffered cs t m (deed.End fault) = Unit {0}
