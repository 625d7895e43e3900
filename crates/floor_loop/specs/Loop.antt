-- A loop, as contracts see it: a hub, and what is on its way to each of its connections.
use Rattle.std.specs.Prelude.{◌≡◌, ◌≢◌, ◌⊎◌, ◌≤◌, ℕ, ◌+◌, List, [], length, nat_eq, min, Option, Some, None, IsSome, option_and_then}
use Rattle.std.specs.Map.{lookup}
use Rattle.std.specs.Option.{option_map_or}
use Rattle.floor_wire.specs.Message.{messages}
use Rattle.floor_hub.specs.declared.connection.Connection.{Connection}
use Rattle.floor_hub.specs.Connections.{connection_at}
use Rattle.floor_hub.specs.Hub.{Hub}
use Rattle.floor_hub.specs.Rooms.{first_at}
use Rattle.floor_loop.specs.declared.stay.Stay.{Stay}
use Rattle.floor_loop.specs.Away.{Away, ends_of, stay_of}

-- One connection: its conference; the bytes that were taken from the hub for it and that its socket has yet to take; how many parcels they
-- are the end of; since when it has something to write or is to be shut down, where it wasn't given since; by when it is to be shut
-- down, where it is to be; and when its socket failed, where it did.
pub record Outgoing : Type 0 where
  pub conference : ℕ
  pub rest : List ℕ
  pub parcels : ℕ
  pub ready : Option ℕ
  pub ends : Option ℕ
  pub fails : Option ℕ

-- the connections by number, how late it was at last, and who is away
pub record Attended : Type 0 where
  pub outgoing : List (ℕ × Outgoing)
  pub time : ℕ
  pub away : Away

-- the hub, and its live connections
pub record Loop : Type 0 where
  pub hub : Hub
  pub attended : Attended

-- what is on its way to the connection with this number
abbrev pub outgoing_in : Attended → ℕ → Option Outgoing
outgoing_in a number = lookup (nat_eq number) a.outgoing

abbrev pub outgoing_at : Loop → ℕ → Option Outgoing
outgoing_at l number = outgoing_in l.attended number

-- the earlier of these times, where there are two
abbrev pub earlier : Option ℕ → Option ℕ → Option ℕ
earlier None other = other
earlier (Some time) None = Some time
earlier (Some time) (Some other) = Some (min time other)

-- by when the connection is to be shut down, where it is to be
abbrev pub until_of : Outgoing → Option ℕ
until_of o = earlier o.fails o.ends

abbrev pub until_in : Attended → ℕ → Option ℕ
until_in a number = option_and_then until_of (outgoing_in a number)

-- until when the connection with this number is left alone, where that has an end: it is to be shut down by then, or its member is away
-- until then
abbrev pub over_in : Attended → ℕ → Option ℕ
over_in a number = earlier (until_in a number) (ends_of a.away number)

-- the bytes that are to be written to the connection with this number, and none without one
abbrev pub rest_at : Loop → ℕ → List ℕ
rest_at l number = option_map_or (λ o. o.rest) (outgoing_at l number) []

-- how many parcels those bytes are the end of
abbrev pub parcels_at : Loop → ℕ → ℕ
parcels_at l number = option_map_or (λ o. o.parcels) (outgoing_at l number) 0

-- since when the connection with this number has something to write or is to be shut down, where it wasn't given since
abbrev pub ready_at : Loop → ℕ → Option ℕ
ready_at l number = option_and_then (λ o. o.ready) (outgoing_at l number)

-- by when the connection with this number is to be shut down, where it is
abbrev pub until_at : Loop → ℕ → Option ℕ
until_at l number = until_in l.attended number

-- what is known of the connection with this number, where it is away
abbrev pub stay_at : Loop → ℕ → Option Stay
stay_at l number = stay_of l.attended.away number

-- until when its member stays, where it is away
abbrev pub stays_until : Loop → ℕ → Option ℕ
stays_until l number = ends_of l.attended.away number

-- until when the connection with this number is left alone, where that has an end
abbrev pub over_at : Loop → ℕ → Option ℕ
over_at l number = over_in l.attended number

-- the connection with this number, if there is one, is ready, and is to be shut down within ten seconds
abbrev pub IsEnded : Attended → ℕ → Type 0
IsEnded a number = (o : Outgoing) → outgoing_in a number ≡ Some o → IsSome o.ready × ((ends : ℕ) × (o.ends ≡ Some ends) × (ends ≤ a.time + 10000))

-- the connection with this number, if there is one, is ready, and is to be shut down by now, since its socket failed
abbrev pub HasFailed : Attended → ℕ → Type 0
HasFailed a number = (o : Outgoing) → outgoing_in a number ≡ Some o → IsSome o.ready × ((until : ℕ) × (o.fails ≡ Some until) × (until ≤ a.time))

-- no further parcel is taken from the hub before some are acknowledged: 64 are on their way, or 64 KiB
abbrev pub IsFull : Outgoing → Type 0
IsFull o = (64 ≤ o.parcels) ⊎ (65536 ≤ length o.rest)

-- For the connection with this number, if there is one, nothing waits in the hub any more; or as much is on its way as may be; or it is to be shut down
-- by now, as one for which memory was refused.
abbrev pub IsFilled : Loop → ℕ → Type 0
IsFilled l number =
    (o : Outgoing) → outgoing_at l number ≡ Some o → (first_at l.hub (connection_at l.hub.connections number) ≡ None) ⊎ (IsFull o ⊎ ((until : ℕ) × (o.fails ≡ Some until) × (until ≤ l.attended.time)))

-- no whole message is left of what came from the connection with this number
abbrev pub HoldsNoMessage : Hub → ℕ → Type 0
HoldsNoMessage h number = (x : Connection) → connection_at h.connections number ≡ Some x → messages x.held ≡ []

-- the connection with this number, if there is one, is ready where something waits for it in the hub and is handed out
abbrev pub IsHandedOut : Hub → Attended → ℕ → Type 0
IsHandedOut h a number = (o : Outgoing) → outgoing_in a number ≡ Some o → first_at h (connection_at h.connections number) ≢ None → IsSome o.ready

-- so each live connection of this conference
abbrev pub AreHandedOut : ℕ → Loop → Type 0
AreHandedOut conference l = (number : ℕ) (x : Connection) → connection_at l.hub.connections number ≡ Some x → x.conference ≡ conference → IsHandedOut l.hub l.attended number
