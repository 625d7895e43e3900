-- What was taken of what waits for connections.
use Rattle.std.specs.Prelude.{◌≡◌, ℕ, ◌+◌, ◌==◌, ◌&&◌, Bool, true, List, [], ◌∷◌, ◌++◌, length, take, Option, Some, None, if◌then◌else◌}
use Rattle.std.specs.Option.{option_map, option_map_or}
use Rattle.floor_machine.specs.Parcel.{Parcel}
use Rattle.floor_room.specs.Outbox.{Outbox}
use Rattle.floor_room.specs.Room.{Room, is_kept}
use Rattle.floor_hub.specs.declared.connection.Connection.{Connection}
use Rattle.floor_hub.specs.Connections.{SameConnections, connection_at}
use Rattle.floor_hub.specs.Hub.{Hub, room_at}
use Rattle.floor_hub.specs.StandsFor.{StandsFor}
use Rattle.floor_hub.specs.World.{Place, World, place}
use Rattle.floor_script.specs.Printed.{due_to, fast_of, lines_to, printed_to, sent_lines}
use Rattle.floor_script.specs.State.{most_at_once}
use Rattle.floor_script.specs.declared.attached.Live.{Live}
use Rattle.floor_script.specs.declared.waiting.Taken.{Taken}
use Rattle.floor_script.specs.steps.Holding.{Holds, outbox_in, taken_in}

-- what the outbox of a live connection holds
abbrev pub held_for : Hub → Option Connection → List Parcel
held_for hub None = []
held_for hub (Some connection) = option_map_or (λ outbox. outbox.held) (outbox_in (room_at hub connection.conference) connection.n) []

abbrev pub held : Hub → ℕ → List Parcel
held hub connection = held_for hub (connection_at hub.connections connection)

-- how many parcels at this place are the connection's
abbrev pub count_for : Option Connection → ℕ → ℕ → ℕ → ℕ
count_for None count conference n = 0
count_for (Some x) count conference n = if (x.conference == conference) && (x.n == n) then count else 0

-- the room but for what it holds for its members
abbrev pub bare : Room → Room
bare room = record room { outboxes = [] }

-- all that the room told is kept, so that it is handed out
abbrev pub IsKeptIn : Option Room → Type 0
IsKeptIn None = Unit {0}
IsKeptIn (Some room) = is_kept room ≡ true

-- what is told to a live connection is handed out
abbrev pub HandsOut : Hub → Option Connection → Type 0
HandsOut hub None = Unit {0}
HandsOut hub (Some connection) = IsKeptIn (room_at hub connection.conference)

-- These parcels were taken of what an outbox holds for a connection, the first in order. Nothing else has changed.
pub record TakenOff (connection : ℕ) (parcels : List Parcel) (old new : Hub) : Type 0 where
  pub waited : held old connection ≡ parcels ++ held new connection
  pub counted : (conference n : ℕ) →
      taken_in (room_at new conference) n ≡ taken_in (room_at old conference) n + count_for (connection_at old.connections connection) (length parcels) conference n
  pub rooms : (conference : ℕ) → option_map bare (room_at new conference) ≡ option_map bare (room_at old conference)
  pub connections : SameConnections old.connections new.connections
  pub stands : (w : World) → StandsFor old w → StandsFor new w

abbrev pub HasOutbox : Hub → Option Connection → Type 0
HasOutbox hub None = Unit {0}
HasOutbox hub (Some x) = (outbox : Outbox) × (outbox_in (room_at hub x.conference) x.n ≡ Some outbox)

-- A parcel was taken of it, or none: where what is told to it is handed out, none waited.
pub record TakenOne (connection : ℕ) (parcels : List Parcel) (old new : Hub) : Type 0 where
  pub off : TakenOff connection parcels old new
  pub there : HasOutbox old (connection_at old.connections connection)
  pub none : HandsOut old (connection_at old.connections connection) → parcels ≡ [] → held new connection ≡ []

-- All that waited was taken, or the most that is taken at once, and was so many parcels; the text has their lines.
pub record TakenAll (connection count : ℕ) (old new : Hub) (was is : List ℕ) : Type 0 where
  pub count_is : count ≡ length (take most_at_once (held old connection))
  pub off : TakenOff connection (take most_at_once (held old connection)) old new
  pub there : HasOutbox old (connection_at old.connections connection)
  pub text : is ≡ was ++ sent_lines connection (take most_at_once (held old connection))

-- the same where what is told to the connection is handed out
abbrev pub TakesAll : ℕ → ℕ → Hub → Hub → List ℕ → List ℕ → Type 0
TakesAll connection count old new was is = HandsOut old (connection_at old.connections connection) → TakenAll connection count old new was is

-- a place of this conference
abbrev pub IsPlaceOf : ℕ → Option Place → Type 0
IsPlaceOf conference None = ⊥
IsPlaceOf conference (Some p) = p.conference ≡ conference

-- each of these connections has a place of this conference
abbrev pub ArePlaced : List Place → ℕ → List ℕ → Type 0
ArePlaced places conference [] = Unit {0}
ArePlaced places conference (connection ∷ more) = IsPlaceOf conference (place places connection) × ArePlaced places conference more

-- What waits for these connections was taken, of one after another; the text has its lines, and what is to be acknowledged of it was noted.
pub record Empties (w : World) (connections : List ℕ) (printed : ℕ → ℕ → ℕ) (new : Hub) (noted now : List Taken) (was is : List ℕ) : Type 0 where
  pub holds : Holds new w (printed_to w connections printed)
  pub noted_is : now ≡ noted ++ due_to w connections printed
  pub text : is ≡ was ++ lines_to w connections printed

-- the same for a hub that holds any such world, where the connections are of this conference
pub record EmptiesAll (conference : ℕ) (connections : List ℕ) (old new : Hub) (noted now : List Taken) (was is : List ℕ) : Type 0 where
  pub empties : (w : World) (printed : ℕ → ℕ → ℕ) → Holds old w printed → ArePlaced w.places conference connections →
      Empties w connections printed new noted now was is

-- the same for one connection that is live, unless it is slow
pub record EmptiesLive (conference : ℕ) (live : Live) (old new : Hub) (noted now : List Taken) (was is : List ℕ) : Type 0 where
  pub empties : EmptiesAll conference (fast_of (live ∷ [])) old new noted now was is
