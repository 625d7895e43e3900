-- The law of loops, for any list of their calls.
use Rattle.std.specs.Prelude.{◌≡◌, ℕ, ◌+◌, List, [], ◌∷◌, ◌++◌, nat_eq, if◌then◌else◌, false, Some, IsSome, take}
use Rattle.floor_config.specs.Configuration.{Configuration}
use Rattle.floor_machine.specs.declared.event.Event.{Event}
use Rattle.floor_machine.specs.Journal.{Q}
use Rattle.floor_room.specs.Replay.{bytes_of}
use Rattle.floor_room.specs.Room.{Room, parcels_to}
use Rattle.floor_hub.specs.declared.connection.Connection.{Connection}
use Rattle.floor_hub.specs.declared.step.Step.{Step}
use Rattle.floor_hub.specs.Connections.{connection_at}
use Rattle.floor_hub.specs.Hub.{room_at}
use Rattle.floor_hub.specs.Runs.{alone, configuration, events, run}
use Rattle.floor_hub.specs.StandsFor.{StandsFor}
use Rattle.floor_hub.specs.World.{World, nothing}
use Rattle.floor_loop.specs.Loop.{Loop, Outgoing, outgoing_at}
use Rattle.floor_loop.specs.Written.{IsServing, Took, acknowledged, written}

-- a call of a loop: the steps of its hub; whose socket took these bytes by it, or none; and how many parcels to that connection it acknowledged
pub record Call : Type 0 where
  pub steps : List Step
  pub number : ℕ
  pub bytes : List ℕ
  pub parcels : ℕ

-- What the contract of a call says of this connection, that led from the first loop to the second, where the first stood for this world.
pub record Does (number : ℕ) (w : World) (c : Call) (old new : Loop) : Type 0 where
  pub stands : StandsFor new.hub (run w c.steps)
  pub took : Took old new number (if nat_eq c.number number then c.bytes else []) (if nat_eq c.number number then c.parcels else 0)
  pub serving : IsServing new

-- the connection with this number is live
abbrev pub IsLive : Loop → ℕ → Type 0
IsLive l number = IsSome (connection_at l.hub.connections number)

-- these calls, one after another, led from the first loop to the last, and the connection was live behind each
abbrev pub Calls : ℕ → World → List Call → Loop → Loop → Type 0
Calls number w [] first last = last ≡ first
Calls number w (c ∷ cs) first last = (next : Loop) × Does number w c first next × IsLive next number × Calls number (run w c.steps) cs next last

abbrev pub steps_of : List Call → List Step
steps_of [] = []
steps_of (c ∷ cs) = c.steps ++ steps_of cs

-- the bytes that the socket of this connection took by these calls
abbrev pub bytes_by : ℕ → List Call → List ℕ
bytes_by number [] = []
bytes_by number (c ∷ cs) = (if nat_eq c.number number then c.bytes else []) ++ bytes_by number cs

-- and how many parcels to it they acknowledged
abbrev pub parcels_by : ℕ → List Call → ℕ
parcels_by number [] = 0
parcels_by number (c ∷ cs) = (if nat_eq c.number number then c.parcels else 0) + parcels_by number cs

-- a connection whose socket has taken nothing yet: it is live, and of what is told to it nothing was written and nothing acknowledged
pub record IsNew (l : Loop) (number : ℕ) : Type 0 where
  pub connection : Connection
  pub room : Room
  pub outgoing : Outgoing
  pub live : connection_at l.hub.connections number ≡ Some connection
  pub there : room_at l.hub connection.conference ≡ Some room
  pub found : outgoing_at l number ≡ Some outgoing
  pub unwritten : written room connection.n outgoing.rest ≡ []
  pub unacknowledged : acknowledged room connection.n outgoing.parcels ≡ 0

-- These bytes are a front of what the floor machine of this configuration calls for at n after these events, and the first so many
-- parcels of that are whole in them.
pub record IsFront (config : Configuration) (es : List Event) (n : ℕ) (bytes : List ℕ) (parcels : ℕ) : Type 0 where
  pub more : List ℕ
  pub front : Q config es n ≡ bytes ++ more
  pub later : List ℕ
  pub whole : bytes ≡ bytes_of (take parcels (parcels_to config es n)) ++ later

-- The law. From the attach of a connection on, while it is live: the bytes that its socket took are a front of what its conference's floor
-- machine calls for, after the events that this conference has alone, whatever others ask, leave or close; and what was acknowledged was written whole.
abbrev pub WrittenIsCalledFor : Type 0
WrittenIsCalledFor =
    (before : List Step) (calls : List Call) (first last : Loop) (number : ℕ) → StandsFor first.hub (run nothing before) → IsServing first → IsNew first number → Calls number (run nothing before) calls first last →
    (x : Connection) (r : Room) → connection_at last.hub.connections number ≡ Some x → room_at last.hub x.conference ≡ Some r → r.ledger.is_broken ≡ false →
    (configuration x.conference (before ++ steps_of calls) ≡ Some r.ledger.config)
    × IsFront r.ledger.config (events x.conference (alone x.conference (before ++ steps_of calls))) x.n (bytes_by number calls) (parcels_by number calls)
