-- What a refused call of the hub has left: all as it was, but that want of memory in a room breaks that one off.
use Rattle.std.specs.Prelude.{◌≡◌, ◌⊎◌, ℕ, List, [], ◌∷◌, ◌++◌, nat_eq, false, Option, Some, None}
use Rattle.floor_wire.specs.Message.{messages}
use Rattle.floor_machine.specs.declared.event.Event.{Event}
use Rattle.floor_machine.specs.declared.machine.Refusal.TheVariants.{Memory}
use Rattle.floor_room.specs.declared.refusal.RoomRefusal.TheVariants.{Refused as ByMachine}
use Rattle.floor_room.specs.Ledger.{refusal}
use Rattle.floor_room.specs.Room.{Room, broken_room}
use Rattle.floor_room.specs.Calls.{Began}
use Rattle.floor_hub.specs.declared.refusal.HubRefusal.{HubRefusal}
use Rattle.floor_hub.specs.declared.refusal.HubRefusal.TheVariants.{ByRoom}
use Rattle.floor_hub.specs.declared.connection.Connection.{Connection}
use Rattle.floor_hub.specs.Connections.{Connections, Puts, SameConnections}
use Rattle.floor_hub.specs.Hub.{Hub, room_at}
use Rattle.floor_hub.specs.Rooms.{SameHub, leave_event, serve_event, took_event}

-- the call has an event of its own, and the room doesn't refuse it
abbrev pub IsAllowed : List Event → Room → Type 0
IsAllowed own old = (e : Event) × (own ≡ e ∷ []) × (refusal old.ledger e ≡ None)

-- the room is broken off as it was
abbrev pub IsUnbegun : List Event → Room → Room → Type 0
IsUnbegun own old new = new ≡ broken_room old

-- the room is broken off as it was, or with the call's own event begun
abbrev pub IsBrokenOff : List Event → Room → Room → Type 0
IsBrokenOff own old new = (new ≡ broken_room old) ⊎ ((e : Event) × (own ≡ e ∷ []) × Began old new e)

-- The room of this conference is broken off so, though it refuses the call's own event not. Every other, and how many arrivals there were, is
-- as it was.
pub record BreaksOff (Is : List Event → Room → Room → Type 0) (own : Room → List Event) (c : ℕ) (old new : Hub) : Type 0 where
  pub before : Room
  pub after : Room
  pub was : room_at old c ≡ Some before
  pub now : room_at new c ≡ Some after
  pub allowed : IsAllowed (own before) before
  pub broken : Is (own before) before after
  pub others : (d : ℕ) → nat_eq c d ≡ false → room_at new d ≡ room_at old d
  pub arrivals : new.arrivals ≡ old.arrivals

-- The connection under this number holds what it held but for its first message, which is taken off. All others are as they were.
pub record TakesOff (number : ℕ) (x : Connection) (old new : Connections) : Type 0 where
  pub frame : List ℕ
  pub rest : List ℕ
  pub first : messages x.held ≡ frame ∷ messages rest
  pub held : x.held ≡ frame ++ rest
  pub next : Puts old new number (Some record { conference = x.conference; n = x.n; held = rest })

-- what a call for this conference has left that was refused so: after want of memory in the room that broken off, and the connections as they were; else all as it was
abbrev pub LeftAt : (Room → List Event) → ℕ → Hub → Hub → HubRefusal → Type 0
LeftAt own c old new (ByRoom (ByMachine Memory)) = BreaksOff IsBrokenOff own c old new × SameConnections old.connections new.connections
LeftAt own c old new refusal = SameHub old new

-- What serving has left that was refused so. After want of memory in the room that is broken off, and no event has begun while the message is still held; else all is as it was.
abbrev pub LeftServing : ℕ → Option Connection → Hub → Hub → HubRefusal → Type 0
LeftServing number (Some x) old new (ByRoom (ByMachine Memory)) =
    (BreaksOff IsUnbegun (serve_event x) x.conference old new × SameConnections old.connections new.connections)
    ⊎ (BreaksOff IsBrokenOff (serve_event x) x.conference old new × TakesOff number x old.connections new.connections)
LeftServing number x old new refusal = SameHub old new

-- what acknowledging has left that was refused so: after want of memory in the room that broken off, and the connections as they were; else all as it was
abbrev pub LeftTaking : ℕ → Option Connection → Hub → Hub → HubRefusal → Type 0
LeftTaking k (Some x) old new refusal = LeftAt (took_event k x) x.conference old new refusal
LeftTaking k None old new refusal = SameHub old new

-- what a leave has left that was refused so: after want of memory in the room that broken off, and the connection gone; else all as it was
abbrev pub LeftLeaving : ℕ → Option Connection → Hub → Hub → HubRefusal → Type 0
LeftLeaving number (Some x) old new (ByRoom (ByMachine Memory)) =
    BreaksOff IsBrokenOff (leave_event x) x.conference old new × Puts old.connections new.connections number None
LeftLeaving number x old new refusal = SameHub old new
