-- The floor machine of one conference, as contracts see it.
use Rattle.std.specs.Prelude.{◌≡◌, ◌≢◌, ℕ, ◌<◌, List, [], ◌∷◌, ◌++◌, true, length, map, take, drop, not, ◌&&◌, nat_le, if◌then◌else◌, Bool, false, count_by, Option, Some, None, is_some, option_map, Result, Ok, Err}
use Rattle.floor_config.specs.declared.fault.ConfigFault.{ConfigFault}
use Rattle.floor_config.specs.declared.fault.ConfigFault.TheVariants as faults
use Rattle.floor_config.specs.Changed.{chair_fault, floor_fault, user_fault}
use Rattle.floor_config.specs.Lookup.{is_user}
use Rattle.floor_machine.specs.declared.machine.Refusal.{Refusal}
use Rattle.floor_machine.specs.declared.machine.Refusal.TheVariants.{Broken, Ended, NoMember, NoUser, Full, NoRequest, Cut, BadCount, OutOfRange, DoubleUser, DoubleFloor, NoFloor, UnknownChair, Memory}
use Rattle.floor_machine.specs.declared.act.Act.{Act}
use Rattle.floor_machine.specs.declared.event.Event.{Event}
use Rattle.floor_queue.specs.Queue.{request_at}
use Rattle.floor_machine.specs.Conference.{Conference, backlog, is_cut, is_live}
use Rattle.floor_machine.specs.Change.{IsLawful}
use Rattle.floor_machine.specs.Fitting.{ToldFits}
use Rattle.floor_machine.specs.Parcel.{Parcel}
use Rattle.floor_machine.specs.Journal.{IsLawfulFrom, after_from, parcels_from, parcels_of}
use Rattle.floor_machine.specs.declared.running.Stopped.{Stopped}
use Rattle.floor_machine.specs.Next.{next}
use Rattle.floor_machine.specs.Told.{changed_requests}
use Rattle.floor_message.specs.declared.information.Info.{Info}

-- the conference, and whether an event was broken off for want of memory
pub record Machine : Type 0 where
  pub conference : Conference
  pub is_broken : Bool

-- a machine that no event has broken off
abbrev pub whole : Conference → Machine
whole conference = record { conference = conference; is_broken = false }

-- why no event is taken: the machine is broken, or the conference has ended
abbrev pub refusal_of : Machine → Option Refusal → Option Refusal
refusal_of m other = if m.is_broken then Some Broken else if not m.conference.is_open then Some Ended else other

-- why a user may not join: it is no user of the conference, or 64 members are live
abbrev pub join_refusal : Machine → ℕ → Option Refusal
join_refusal m user =
    refusal_of m
    (if not (is_user m.conference.config user) then Some NoUser
    else if nat_le 64 (count_by (λ m. m.is_live) m.conference.members) then Some Full
    else None)

-- why nothing is taken of n: it is no live member, or this applies
abbrev pub member_refusal : Machine → ℕ → Option Refusal → Option Refusal
member_refusal m n other = refusal_of m (if not (is_live m.conference n) then Some NoMember else other)

-- why no message of n is taken: n is no live member, or is cut
abbrev pub message_refusal : Machine → ℕ → Option Refusal
message_refusal m n = member_refusal m n (if is_cut m.conference n then Some Cut else None)

-- some of the messages to n may be acknowledged: at least one, and no more than its backlog
abbrev pub is_backlog : Conference → ℕ → ℕ → Bool
is_backlog s n k = nat_le 1 k && nat_le k (backlog s n)

-- why it isn't taken that k messages to n are acknowledged: n is no live member, or hasn't so many to acknowledge
abbrev pub took_refusal : Machine → ℕ → ℕ → Option Refusal
took_refusal m n k = member_refusal m n (if not (is_backlog m.conference n k) then Some BadCount else None)

-- why it isn't taken that n leaves: it is no live member
abbrev pub leave_refusal : Machine → ℕ → Option Refusal
leave_refusal m n = member_refusal m n None

-- the event that an act of the administrator is
abbrev pub event_of_act : Act → Event
event_of_act (Act.Revoke request) = Event.Revoke request
event_of_act Act.Close = Event.Close
event_of_act (Act.AddUser user) = Event.AddUser user
event_of_act (Act.AddFloor floor) = Event.AddFloor floor
event_of_act (Act.SetChair floor chair) = Event.SetChair floor chair

-- the refusal that says why the configuration doesn't change so; no change of it has another fault than the first five and Memory
abbrev pub refusal_of_fault : ConfigFault → Refusal
refusal_of_fault faults.OutOfRange = OutOfRange
refusal_of_fault faults.DoubleUser = DoubleUser
refusal_of_fault faults.DoubleFloor = DoubleFloor
refusal_of_fault faults.NoFloor = NoFloor
refusal_of_fault faults.UnknownChair = UnknownChair
refusal_of_fault faults.Memory = Memory
refusal_of_fault faults.Syntax = Memory
refusal_of_fault faults.MissingKey = Memory
refusal_of_fault faults.WrongType = Memory
refusal_of_fault faults.DoubleConference = Memory
refusal_of_fault faults.DoublePort = Memory

-- why the configuration doesn't change so
abbrev pub fault_refusal : Machine → Option ConfigFault → Option Refusal
fault_refusal m fault = refusal_of m (option_map refusal_of_fault fault)

-- why an act of the administrator is not taken: it revokes a request that isn't ongoing, or adds or changes what the configuration may
-- not get
abbrev pub act_refusal : Machine → Act → Option Refusal
act_refusal m (Act.Revoke request) = refusal_of m (if not (is_some (request_at m.conference.ongoing request)) then Some NoRequest else None)
act_refusal m Act.Close = refusal_of m None
act_refusal m (Act.AddUser user) = fault_refusal m (user_fault m.conference.config user)
act_refusal m (Act.AddFloor floor) = fault_refusal m (floor_fault m.conference.config floor)
act_refusal m (Act.SetChair floor chair) = fault_refusal m (chair_fault m.conference.config floor chair)

-- why nothing is said for a user: it is no user of the conference
abbrev pub say_refusal : Machine → ℕ → Option Refusal
say_refusal m user = refusal_of m (if not (is_user m.conference.config user) then Some NoUser else None)

-- why an event is not taken
abbrev pub event_refusal : Machine → Event → Option Refusal
event_refusal m (Event.Join user) = join_refusal m user
event_refusal m (Event.Message n bytes) = message_refusal m n
event_refusal m (Event.Took n k) = took_refusal m n k
event_refusal m (Event.Leave n) = leave_refusal m n
event_refusal m (Event.Revoke request) = act_refusal m (Act.Revoke request)
event_refusal m Event.Close = act_refusal m Act.Close
event_refusal m (Event.AddUser user) = act_refusal m (Act.AddUser user)
event_refusal m (Event.AddFloor floor) = act_refusal m (Act.AddFloor floor)
event_refusal m (Event.SetChair floor chair) = act_refusal m (Act.SetChair floor chair)
event_refusal m (Event.Say user bytes) = say_refusal m user

-- The call is refused exactly by this refusal; where there is none it is done, or memory was refused.
abbrev pub IsRefusedBy : {T : Type 0} → Option Refusal → Result T Refusal → Type 0
IsRefusedBy (Some refusal) result = result ≡ Err refusal
IsRefusedBy None (Ok value) = Unit {0}
IsRefusedBy None (Err Memory) = Unit {0}
IsRefusedBy None (Err refusal) = ⊥

-- the call is refused by this refusal, and done without one: it takes no memory
abbrev pub unless_refused : Option Refusal → Result (Unit {0}) Refusal
unless_refused None = Ok tt
unless_refused (Some refusal) = Err refusal

-- What a call that took an event did: the event was lawful, the conference is the next one, the parcels stand behind those before
-- them, and each of their messages can be written.
pub record Applied (old : Machine) (e : Event) (new : Machine) (before after : List Parcel) : Type 0 where
  pub lawful : IsLawful old.conference e
  pub next : new ≡ whole (next old.conference e)
  pub out : after ≡ before ++ parcels_of old.conference e
  pub fits : ToldFits old.conference e

-- what is shown of the requests that an event changed, ascending
abbrev pub infos_changed : Conference → Event → List Info
infos_changed s e = map (λ c. c.info) (changed_requests s e)

-- What a call that refused an event left: no parcel more, and the machine as it was, or a broken one where memory was refused. Why
-- it refused, but for a broken machine and for memory, is that the event isn't lawful.
pub record Left (old : Machine) (e : Event) (new : Machine) (before after : List Parcel) (why : Refusal) : Type 0 where
  pub out : after ≡ before
  pub unchanged : why ≢ Memory → new ≡ old
  pub broken : why ≡ Memory → new.is_broken ≡ true
  pub unlawful : why ≢ Broken → why ≢ Memory → ¬ IsLawful old.conference e

-- a machine after these events, each of which it took
abbrev pub machine_after : Machine → List Event → Machine
machine_after m es = record m { conference = after_from m.conference es }

-- What a run that took all its events did: they were lawful, each after those before it, the machine has taken them, and the parcels
-- stand behind those before them.
pub record AppliedAll (old : Machine) (es : List Event) (new : Machine) (before after : List Parcel) : Type 0 where
  pub lawful : IsLawfulFrom old.conference es
  pub next : new ≡ machine_after old es
  pub out : after ≡ before ++ parcels_from old.conference es

-- the machine refuses the first of these events by this refusal
abbrev pub IsFirstRefused : Machine → List Event → Refusal → Type 0
IsFirstRefused m [] refusal = ⊥
IsFirstRefused m (e ∷ es) refusal = IsRefusedBy {T = Unit {0}} (event_refusal m e) (Err refusal)

-- A run has stopped: before the end, after lawful events, and where the machine refuses the event behind them.
pub record IsStopped (m : Machine) (es : List Event) (stopped : Stopped) : Type 0 where
  pub done : stopped.done < length es
  pub lawful : IsLawfulFrom m.conference (take stopped.done es)
  pub refused : IsFirstRefused (machine_after m (take stopped.done es)) (drop stopped.done es) stopped.refusal

-- What a run that stopped left: the parcels of the events before the refused one, and the machine that has taken those, or a broken
-- one where memory was refused.
pub record LeftAt (old : Machine) (es : List Event) (new : Machine) (before after : List Parcel) (stopped : Stopped) : Type 0 where
  pub out : after ≡ before ++ parcels_from old.conference (take stopped.done es)
  pub unchanged : stopped.refusal ≢ Memory → new ≡ machine_after old (take stopped.done es)
  pub broken : stopped.refusal ≡ Memory → new.is_broken ≡ true
