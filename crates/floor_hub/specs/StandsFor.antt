-- Which worlds a hub stands for.
use Rattle.std.specs.Prelude.{◌≡◌, ◌≤◌, ℕ, ◌++◌, Bool, true, false, Option, Some, None, length}
use Rattle.floor_hub.specs.Connections.{connection_at}
use Rattle.floor_hub.specs.Hub.{Hub, is_forgotten, room_at}
use Rattle.floor_hub.specs.Kept.{IsKept, IsNumbered}
use Rattle.std.specs.List.{concat}
use Rattle.floor_room.specs.Room.{Room}
use Rattle.floor_hub.specs.declared.connection.Connection.{Connection}
use Rattle.floor_hub.specs.World.{World, Part, Place, Arrival, place, arrival, if_live, messages_of, state_of}

-- the arrival at a place, where its conference is opened
abbrev pub arrival_in : Option Part → ℕ → Option Arrival
arrival_in None n = None
arrival_in (Some p) n = arrival p n

-- the live arrival at a place
abbrev pub live_at : (ℕ → Option Part) → Place → Option Arrival
live_at parts p = if_live (arrival_in (parts p.conference) p.n)

-- the room is the conference's part; of a broken one, only that it is open
abbrev pub RoomStands : Option Room → Option Part → Type 0
RoomStands None None = Unit {0}
RoomStands None (Some p) = ⊥
RoomStands (Some r) None = ⊥
RoomStands (Some r) (Some p) = (r.ledger.config ≡ p.config) × (r.ledger.is_broken ≡ false → r.ledger.journal ≡ p.events)

-- the conference is in the world, and has ended
abbrev pub HasEnded : Option Part → Type 0
HasEnded None = ⊥
HasEnded (Some p) = (state_of p).is_open ≡ false

-- the room is the conference's part; a forgotten conference has no room, and its part has ended
abbrev pub ConferenceStands : Bool → Option Room → Option Part → Type 0
ConferenceStands false r p = RoomStands r p
ConferenceStands true r p = (r ≡ None) × HasEnded p

-- what came from the connection is its messages in the journal, which were served, and what is held
pub record Came (r : Room) (x : Connection) (a : Arrival) : Type 0 where
  pub bytes : a.bytes ≡ concat (messages_of x.n r.ledger.journal) ++ x.held
  pub served : a.served ≡ length (messages_of x.n r.ledger.journal)

abbrev pub CameTo : Option Room → Connection → Arrival → Type 0
CameTo None x a = Unit {0}
CameTo (Some r) x a = r.ledger.is_broken ≡ false → Came r x a

abbrev pub ArrivalStands : (ℕ → Option Room) → Place → Option Connection → Option Arrival → Type 0
ArrivalStands rooms p None None = Unit {0}
ArrivalStands rooms p None (Some a) = ⊥
ArrivalStands rooms p (Some x) None = ⊥
ArrivalStands rooms p (Some x) (Some a) = (x.conference ≡ p.conference) × (x.n ≡ p.n) × CameTo (rooms p.conference) x a

-- a number that was never given has no connection
abbrev pub NumberStands : (ℕ → Option Room) → (ℕ → Option Part) → Option Connection → Option Place → Type 0
NumberStands rooms parts x None = x ≡ None
NumberStands rooms parts x (Some p) = ArrivalStands rooms p x (live_at parts p)

-- The hub's conferences, arrivals and live connections are the world's, and no live connection is of a forgotten conference.
pub record Stands (h : Hub) (w : World) : Type 0 where
  pub conferences : (c : ℕ) → ConferenceStands (is_forgotten h c) (room_at h c) (w.parts c)
  pub count : h.arrivals ≡ length w.places
  pub numbers : (k : ℕ) → NumberStands (room_at h) w.parts (connection_at h.connections k) (place w.places k)
  -- no two numbers have one place
  pub apart : (j k : ℕ) (p : Place) → place w.places j ≡ Some p → place w.places k ≡ Some p → j ≡ k
  pub remembered : (number : ℕ) (x : Connection) → connection_at h.connections number ≡ Some x → is_forgotten h x.conference ≡ false

-- A hub stands for a kept world.
pub record StandsFor (h : Hub) (w : World) : Type 0 where
  pub kept : IsKept w
  pub numbered : IsNumbered w
  pub stands : Stands h w

-- the conference is open, and its room keeps an outbox for n
abbrev pub HasOutbox : Option Room → ℕ → Type 0
HasOutbox None n = ⊥
HasOutbox (Some r) n = (1 ≤ n) × (n ≤ length r.outboxes)

-- each live connection has an outbox in its conference's room, also in a broken one
abbrev pub HaveOutboxes : Hub → Type 0
HaveOutboxes h = (number : ℕ) (x : Connection) → connection_at h.connections number ≡ Some x → HasOutbox (room_at h x.conference) x.n

-- some world is stood for, and each live connection has an outbox
abbrev pub Stood : Hub → Type 0
Stood h = (w : World) × StandsFor h w × HaveOutboxes h
