-- Whole runs, each from the first world: what every conference comes to, and what its connections are sent.
use Rattle.std.specs.Prelude.{◌≡◌, ℕ, ◌+◌, List, [], ◌∷◌, ◌++◌, ◌==◌, ◌&&◌, not, if◌then◌else◌, Option, Some, None, map}
use Rattle.std.specs.List.{concat, flat_map}
use Rattle.std.specs.Option.{option_map, option_map_or}
use Rattle.floor_config.specs.Configuration.{Configuration}
use Rattle.floor_machine.specs.Conference.{Conference}
use Rattle.floor_machine.specs.declared.act.Act.{Act}
use Rattle.floor_machine.specs.declared.event.Event.{Event}
use Rattle.floor_machine.specs.declared.event.Event.TheVariants.{Join, Message, Took as Takes, Leave as Leaves, Revoke, Close, AddUser, AddFloor, SetChair, Say as Says}
use Rattle.floor_machine.specs.Journal.{Q, told_from}
use Rattle.floor_machine.specs.Machine.{event_of_act}
use Rattle.floor_machine.specs.Outgoing.{outgoing_bytes}
use Rattle.floor_hub.specs.declared.step.Step.{Step}
use Rattle.floor_hub.specs.declared.step.Step.TheVariants.{Open, Attach, Piece, Serve, Took, Leave, Admin, Say}
use Rattle.floor_hub.specs.declared.step.Answer.{Answer}
use Rattle.floor_hub.specs.declared.step.Answer.TheVariants.{Done, Attached, Nothing, Served, Said, Refused}
use Rattle.floor_hub.specs.declared.transcript.Queued.{Queued}
use Rattle.floor_hub.specs.declared.transcript.Transcript.{Transcript}
use Rattle.floor_hub.specs.Kept.{first_numbers, joins}
use Rattle.floor_hub.specs.World.{World, Part, Place, Aim, Turn, aimed, arrival, is_full, messages_next, nothing, place, state_of, turn}

-- the world after steps
abbrev pub run : World → List Step → World
run w [] = w
run w (s ∷ ss) = run (turn w s).world ss

-- the answers to steps
abbrev pub answers : World → List Step → List Answer
answers w [] = []
answers w (s ∷ ss) = (turn w s).answer ∷ answers (turn w s).world ss

abbrev pub events_in : Option Part → List Event
events_in None = []
events_in (Some p) = p.events

-- the events of the conference c after these steps
abbrev pub events : ℕ → List Step → List Event
events c steps = events_in ((run nothing steps).parts c)

-- the configuration of the conference c after these steps
abbrev pub configuration : ℕ → List Step → Option Configuration
configuration c steps = option_map (λ p. p.config) ((run nothing steps).parts c)

-- the events that a step adds to a part, by its answer: an attach that succeeds its Join; a serve that finds a message that
-- message, the next unserved one of all bytes of its arrival; a took that succeeds its Took; a leave its Leave, where the conference is open and its
-- journal isn't full; an act that succeeds itself; a message that is said its Say; and nothing else adds an event
abbrev pub adds : Part → Step → Answer → List Event
adds p (Attach c user) (Attached number) = Join user ∷ []
adds p (Serve n) Served = map (Message n) (messages_next (arrival p n))
adds p (Took n k) Done = Takes n k ∷ []
adds p (Leave n) Done = if (state_of p).is_open && not (is_full p) then Leaves n ∷ [] else []
adds p (Admin c act) Done = event_of_act act ∷ []
adds p (Say c user bytes) (Said v) = Says user bytes ∷ []
adds p s answer = []

abbrev pub adds_in : Option Part → Step → Answer → List Event
adds_in None s answer = []
adds_in (Some p) s answer = adds p s answer

abbrev pub adds_to : ℕ → World → Option Aim → Answer → List Event
adds_to c w None answer = []
adds_to c w (Some a) answer = if a.conference == c then adds_in (w.parts c) a.step answer else []

-- the events that a step adds to the conference c
abbrev pub added : ℕ → World → Step → List Event
added c w s = adds_to c w (aimed w s) (turn w s).answer

-- the step, where it is for the conference c
abbrev pub own : ℕ → Option Aim → List Step
own c None = []
own c (Some a) = if a.conference == c then a.step ∷ [] else []

abbrev pub alone_in : ℕ → World → List Step → List Step
alone_in c w [] = []
alone_in c w (s ∷ ss) = own c (aimed w s) ++ alone_in c (turn w s).world ss

-- the steps for the conference c, in order, each with n in place of the arrival's number
abbrev pub alone : ℕ → List Step → List Step
alone c steps = alone_in c nothing steps

-- an answer, with n in place of the arrival's number
abbrev pub within : List Place → Answer → Answer
within ps (Attached number) = option_map_or (λ p. Attached p.n) (place ps number) (Attached 0)
within ps Done = Done
within ps Nothing = Nothing
within ps Served = Served
within ps (Said v) = Said v
within ps (Refused r) = Refused r

abbrev pub own_answer : ℕ → Option Aim → Turn → List Answer
own_answer c None t = []
own_answer c (Some a) t = if a.conference == c then within t.world.places t.answer ∷ [] else []

-- the answers to the steps for the conference c, in order, each with n in place of the arrival's number
abbrev pub answers_to : ℕ → World → List Step → List Answer
answers_to c w [] = []
answers_to c w (s ∷ ss) = own_answer c (aimed w s) (turn w s) ++ answers_to c (turn w s).world ss

-- the steps that give the conference c this event
abbrev pub steps_for : ℕ → Event → List Step
steps_for c (Join user) = Attach c user ∷ []
steps_for c (Message n bytes) = Piece n bytes ∷ Serve n ∷ []
steps_for c (Takes n k) = Took n k ∷ []
steps_for c (Leaves n) = Leave n ∷ []
steps_for c (Revoke request) = Admin c (Act.Revoke request) ∷ []
steps_for c Close = Admin c Act.Close ∷ []
steps_for c (AddUser user) = Admin c (Act.AddUser user) ∷ []
steps_for c (AddFloor floor) = Admin c (Act.AddFloor floor) ∷ []
steps_for c (SetChair floor chair) = Admin c (Act.SetChair floor chair) ∷ []
steps_for c (Says user bytes) = Say c user bytes ∷ []

-- the steps that give a conference these events: its Open, then those of each event
abbrev pub steps_of : Configuration → List Event → List Step
steps_of config es = Open config ∷ flat_map (steps_for config.conference) es

-- the same behind so many arrivals of other conferences, and of its own n that joined as n has the number behind those
abbrev pub steps_from : ℕ → ℕ → Event → List Step
steps_from base c (Join user) = Attach c user ∷ []
steps_from base c (Message n bytes) = Piece (base + n) bytes ∷ Serve (base + n) ∷ []
steps_from base c (Takes n k) = Took (base + n) k ∷ []
steps_from base c (Leaves n) = Leave (base + n) ∷ []
steps_from base c (Revoke request) = Admin c (Act.Revoke request) ∷ []
steps_from base c Close = Admin c Act.Close ∷ []
steps_from base c (AddUser user) = Admin c (Act.AddUser user) ∷ []
steps_from base c (AddFloor floor) = Admin c (Act.AddFloor floor) ∷ []
steps_from base c (SetChair floor chair) = Admin c (Act.SetChair floor chair) ∷ []
steps_from base c (Says user bytes) = Say c user bytes ∷ []

-- the steps that resume a conference behind so many arrivals: its Open, then those of each event
abbrev pub resuming_of : ℕ → Configuration → List Event → List Step
resuming_of base config es = Open config ∷ flat_map (steps_from base config.conference) es

-- the messages that these events have for n, as bytes
abbrev pub parcels_after : Conference → List Event → ℕ → List (List ℕ)
parcels_after s es n = map outgoing_bytes (told_from s es n)

-- the parcels that these events have for n, after those of the part
abbrev pub sends : Option Part → List Event → ℕ → List (List ℕ)
sends None es n = []
sends (Some p) es n = parcels_after (state_of p) es n

-- the parcels that steps have for n of the conference c, step by step: what the events that each adds have for n
abbrev pub sent : ℕ → World → List Step → ℕ → List (List ℕ)
sent c w [] n = []
sent c w (s ∷ ss) n = sends (w.parts c) (added c w s) n ++ sent c (turn w s).world ss n

-- all bytes that steps queue to n of the conference c
abbrev pub queued : ℕ → List Step → ℕ → List ℕ
queued c steps n = concat (sent c nothing steps n)

-- what the events of a part call for at n
abbrev pub called_at : Option Part → ℕ → List ℕ
called_at None n = []
called_at (Some p) n = Q p.config p.events n

-- an entry for each of these places, which are numbered from k on, with all that the events of its conference call for at it
abbrev pub queues_from : (ℕ → Option Part) → ℕ → List Place → List Queued
queues_from parts k [] = []
queues_from parts k (q ∷ qs) =
    record { number = k; conference = q.conference; n = q.n; bytes = called_at (parts q.conference) q.n } ∷ queues_from parts (k + 1) qs

-- what steps queue: an entry per arrival, in order
abbrev pub queues : List Step → List Queued
queues steps = queues_from (run nothing steps).parts 1 (run nothing steps).places

-- The transcript is that of a run of these steps: it has the answer to each, and what was queued to each arrival.
pub record IsRunOf (steps : List Step) (t : Transcript) : Type 0 where
  pub answers : t.answers ≡ answers nothing steps
  pub queued : t.queued ≡ queues steps

-- of what was queued, what each connection of the conference c got: n, and all its bytes
abbrev pub queued_in : ℕ → List Queued → List (ℕ × List ℕ)
queued_in c [] = []
queued_in c (q ∷ qs) = if q.conference == c then (q.n, q.bytes) ∷ queued_in c qs else queued_in c qs

-- what the floor machine of this configuration alone calls for after these events: at each n that joined, from 1 on
abbrev pub called_for : Configuration → List Event → List (ℕ × List ℕ)
called_for config es = map (λ n. (n, Q config es n)) (first_numbers (joins es))
