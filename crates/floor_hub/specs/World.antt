-- All conferences, and what each step does to one of them.
use Rattle.std.specs.Prelude.{ℕ, zero, suc, ◌+◌, List, [], ◌∷◌, ◌++◌, ◌==◌, nat_le, nat_eq, not, if◌then◌else◌, Bool, true, false, Option, Some, None, is_some, length, slice_get, slice_set}
use Rattle.std.specs.Option.{option_map_or}
use Rattle.std.specs.Map.{update}
use Rattle.floor_config.specs.Configuration.{Configuration}
use Rattle.floor_wire.specs.Message.{message_len, messages}
use Rattle.floor_machine.specs.Conference.{Conference}
use Rattle.floor_machine.specs.declared.event.Event.{Event}
use Rattle.floor_machine.specs.declared.event.Event.TheVariants.{Join, Message, Took as Takes, Leave as Leaves, Revoke, Close, AddUser, AddFloor, SetChair, Say as Says}
use Rattle.floor_machine.specs.declared.machine.Refusal.TheVariants.{Ended}
use Rattle.floor_machine.specs.Journal.{MAX_EVENTS, after}
use Rattle.floor_machine.specs.Machine.{event_of_act}
use Rattle.floor_machine.specs.Reply.{said_reply}
use Rattle.floor_room.specs.declared.refusal.RoomRefusal.{RoomRefusal}
use Rattle.floor_room.specs.declared.refusal.RoomRefusal.TheVariants.{Refused as ByMachine}
use Rattle.floor_room.specs.Ledger.{Ledger, closed, conference_of, refusal}
use Rattle.floor_room.specs.declared.said.Said as room
use Rattle.floor_hub.specs.declared.refusal.HubRefusal.{HubRefusal}
use Rattle.floor_hub.specs.declared.refusal.HubRefusal.TheVariants.{NoConference, NoConnection, Used, BadMessage, ByRoom}
use Rattle.floor_hub.specs.declared.step.Step.{Step}
use Rattle.floor_hub.specs.declared.step.Step.TheVariants.{Open, Attach, Piece, Serve, Took, Leave, Admin, Say}
use Rattle.floor_hub.specs.declared.step.Answer.{Answer}
use Rattle.floor_hub.specs.declared.step.Answer.TheVariants.{Done, Attached, Nothing, Served, Said, Refused}

-- what came from a connection: all its bytes, how many messages of them were served, and whether it is still there
pub record Arrival : Type 0 where
  pub bytes : List ℕ
  pub served : ℕ
  pub live : Bool

-- one conference: its arrivals stand in order of joining
pub record Part : Type 0 where
  pub config : Configuration
  pub events : List Event
  pub arrivals : List Arrival

abbrev pub state_of : Part → Conference
state_of p = after p.config p.events

-- the part as a ledger
abbrev pub ledger_of : Part → Ledger
ledger_of p = record { config = p.config; journal = p.events; is_broken = false }

-- the part has had its 2,000,000 events
abbrev pub is_full : Part → Bool
is_full p = nat_le MAX_EVENTS (length p.events)

-- why this event may not be added
abbrev pub refused : Part → Event → Option RoomRefusal
refused p e = refusal (ledger_of p) e

-- the arrival n, counted from 1
abbrev pub arrival : Part → ℕ → Option Arrival
arrival p zero = None
arrival p (suc k) = slice_get p.arrivals k

abbrev pub if_live : Option Arrival → Option Arrival
if_live None = None
if_live (Some a) = if a.live then Some a else None

abbrev pub set_arrival : List Arrival → ℕ → Arrival → List Arrival
set_arrival list zero a = list
set_arrival list (suc k) a = slice_set list k a

abbrev pub with_events : Part → List Event → Part
with_events p es = record { config = p.config; events = p.events ++ es; arrivals = p.arrivals }

abbrev pub with_arrival : Part → ℕ → Arrival → Part
with_arrival p n a = record { config = p.config; events = p.events; arrivals = set_arrival p.arrivals n a }

-- the part after a step, and the answer; an attach is answered by n
pub record Offered : Type 0 where
  pub part : Option Part
  pub answer : Answer

abbrev pub refuses : Option Part → HubRefusal → Offered
refuses part r = record { part = part; answer = Refused r }

abbrev pub opened : Configuration → Part
opened config = record { config = config; events = []; arrivals = [] }

abbrev pub joined : Part → ℕ → Part
joined p user = record {
  config = p.config;
  events = p.events ++ Join user ∷ [];
  arrivals = p.arrivals ++ record { bytes = []; served = 0; live = true } ∷ [];
}

abbrev pub attach : Part → ℕ → Option RoomRefusal → Offered
attach p user None = record { part = Some (joined p user); answer = Attached (length p.arrivals + 1) }
attach p user (Some r) = refuses (Some p) (ByRoom r)

abbrev pub piece : Part → ℕ → List ℕ → Option Arrival → Offered
piece p n bytes None = refuses (Some p) NoConnection
piece p n bytes (Some a) =
    record { part = Some (with_arrival p n record { bytes = a.bytes ++ bytes; served = a.served; live = a.live }); answer = Done }

-- the next unserved message
abbrev pub unserved : Arrival → Option (List ℕ)
unserved a = slice_get (messages a.bytes) a.served

abbrev pub messages_next : Option Arrival → List (List ℕ)
messages_next None = []
messages_next (Some a) = option_map_or (λ m. m ∷ []) (unserved a) []

abbrev pub take_message : Part → ℕ → Arrival → List ℕ → Option RoomRefusal → Offered
take_message p n a m None = record {
  part = Some (with_arrival (with_events p (Message n m ∷ [])) n record { bytes = a.bytes; served = a.served + 1; live = a.live });
  answer = Served;
}
take_message p n a m (Some r) = refuses (Some p) (ByRoom r)

abbrev pub serve_message : Part → ℕ → Arrival → Option (List ℕ) → Offered
serve_message p n a None = record { part = Some p; answer = Nothing }
serve_message p n a (Some m) = take_message p n a m (refused p (Message n m))

abbrev pub serve : Part → ℕ → Option Arrival → Offered
serve p n None = refuses (Some p) NoConnection
serve p n (Some a) = if not (state_of p).is_open then refuses (Some p) (ByRoom (ByMachine Ended)) else serve_message p n a (unserved a)

-- an event that is added as it is
abbrev pub add_event : Part → Event → Option RoomRefusal → Offered
add_event p e None = record { part = Some (with_events p (e ∷ [])); answer = Done }
add_event p e (Some r) = refuses (Some p) (ByRoom r)

abbrev pub took : Part → ℕ → ℕ → Option Arrival → Offered
took p n k None = refuses (Some p) NoConnection
took p n k (Some a) = add_event p (Takes n k) (refused p (Takes n k))

abbrev pub left : Part → ℕ → List Event
left p n = if is_some (closed (ledger_of p)) then [] else Leaves n ∷ []

abbrev pub leave : Part → ℕ → Option Arrival → Offered
leave p n None = refuses (Some p) NoConnection
leave p n (Some a) =
    record { part = Some (with_arrival (with_events p (left p n)) n record { bytes = a.bytes; served = a.served; live = false }); answer = Done }

-- the bytes are exactly one message
abbrev pub is_message : List ℕ → Bool
is_message bytes = length bytes == message_len bytes

-- what a message is answered by that is said for a user of this ledger's conference: its place in the journal, and its reply
abbrev pub answer_said : Ledger → ℕ → List ℕ → room.Said
answer_said l user bytes = record { place = length l.journal + 1; reply = said_reply (conference_of l) (Says user bytes) }

-- why nothing is said: the event is refused, or else it isn't one message
abbrev pub unsaid : Option RoomRefusal → Bool → Option HubRefusal
unsaid (Some r) framed = Some (ByRoom r)
unsaid None true = None
unsaid None false = Some BadMessage

-- a message that is said for a user, unless it is refused so
abbrev pub say : Part → ℕ → List ℕ → Option HubRefusal → Offered
say p user bytes None = record { part = Some (with_events p (Says user bytes ∷ [])); answer = Said (answer_said (ledger_of p) user bytes) }
say p user bytes (Some r) = refuses (Some p) r

-- one conference's part and a step that bears n in place of an arrival's number
abbrev pub offer : Option Part → Step → Offered
offer None (Open config) = record { part = Some (opened config); answer = Done }
offer None (Attach c user) = refuses None NoConference
offer None (Piece n bytes) = refuses None NoConnection
offer None (Serve n) = refuses None NoConnection
offer None (Took n k) = refuses None NoConnection
offer None (Leave n) = refuses None NoConnection
offer None (Admin c act) = refuses None NoConference
offer None (Say c user bytes) = refuses None NoConference
offer (Some p) (Open config) = refuses (Some p) Used
offer (Some p) (Attach c user) = attach p user (refused p (Join user))
offer (Some p) (Piece n bytes) = piece p n bytes (if_live (arrival p n))
offer (Some p) (Serve n) = serve p n (if_live (arrival p n))
offer (Some p) (Took n k) = took p n k (if_live (arrival p n))
offer (Some p) (Leave n) = leave p n (if_live (arrival p n))
offer (Some p) (Admin c act) = add_event p (event_of_act act) (refused p (event_of_act act))
offer (Some p) (Say c user bytes) = say p user bytes (unsaid (refused p (Says user bytes)) (is_message bytes))

-- whose an arrival is: its conference, and n within it
pub record Place : Type 0 where
  pub conference : ℕ
  pub n : ℕ

-- each conference's part; the places of all arrivals, in order
pub record World : Type 0 where
  pub parts : ℕ → Option Part
  pub places : List Place

abbrev pub nothing : World
nothing = record { parts = λ c. None; places = [] }

-- the arrival numbered no over all conferences, counted from 1
abbrev pub place : List Place → ℕ → Option Place
place ps zero = None
place ps (suc k) = slice_get ps k

-- the conference that a step names, and the step with n in place of the arrival's number
pub record Aim : Type 0 where
  pub conference : ℕ
  pub step : Step

abbrev pub aim : (ℕ → Step) → Option Place → Option Aim
aim step None = None
aim step (Some a) = Some record { conference = a.conference; step = step a.n }

abbrev pub aimed : World → Step → Option Aim
aimed w (Open config) = Some record { conference = config.conference; step = Open config }
aimed w (Attach c user) = Some record { conference = c; step = Attach c user }
aimed w (Piece number bytes) = aim (λ n. Piece n bytes) (place w.places number)
aimed w (Serve number) = aim Serve (place w.places number)
aimed w (Took number k) = aim (λ n. Took n k) (place w.places number)
aimed w (Leave number) = aim Leave (place w.places number)
aimed w (Admin c act) = Some record { conference = c; step = Admin c act }
aimed w (Say c user bytes) = Some record { conference = c; step = Say c user bytes }

-- an attach gets the next number over all conferences
abbrev pub numbered : List Place → Answer → Answer
numbered ps (Attached n) = Attached (length ps + 1)
numbered ps Done = Done
numbered ps Nothing = Nothing
numbered ps Served = Served
numbered ps (Said v) = Said v
numbered ps (Refused r) = Refused r

abbrev pub places_after : List Place → ℕ → Answer → List Place
places_after ps c (Attached n) = ps ++ record { conference = c; n = n } ∷ []
places_after ps c Done = ps
places_after ps c Nothing = ps
places_after ps c Served = ps
places_after ps c (Said v) = ps
places_after ps c (Refused r) = ps

pub record Turn : Type 0 where
  pub world : World
  pub answer : Answer

abbrev pub put : World → ℕ → Offered → Turn
put w c o = record {
  world = record { parts = update nat_eq w.parts c o.part; places = places_after w.places c o.answer };
  answer = numbered w.places o.answer;
}

abbrev pub turn_at : World → Option Aim → Turn
turn_at w None = record { world = w; answer = Refused NoConnection }
turn_at w (Some a) = put w a.conference (offer (w.parts a.conference) a.step)

-- one step of the world, and its answer
abbrev pub turn : World → Step → Turn
turn w s = turn_at w (aimed w s)

-- the step was refused, or found no message
abbrev pub IsIdle : Answer → Type 0
IsIdle (Refused r) = Unit {0}
IsIdle Nothing = Unit {0}
IsIdle Done = ⊥
IsIdle (Attached number) = ⊥
IsIdle Served = ⊥
IsIdle (Said v) = ⊥

-- the bytes of n's messages
abbrev pub messages_of : ℕ → List Event → List (List ℕ)
messages_of n [] = []
messages_of n (Message m bytes ∷ es) = if m == n then bytes ∷ messages_of n es else messages_of n es
messages_of n (Join user ∷ es) = messages_of n es
messages_of n (Takes m k ∷ es) = messages_of n es
messages_of n (Leaves m ∷ es) = messages_of n es
messages_of n (Revoke request ∷ es) = messages_of n es
messages_of n (Close ∷ es) = messages_of n es
messages_of n (AddUser user ∷ es) = messages_of n es
messages_of n (AddFloor floor ∷ es) = messages_of n es
messages_of n (SetChair floor chair ∷ es) = messages_of n es
messages_of n (Says user bytes ∷ es) = messages_of n es
