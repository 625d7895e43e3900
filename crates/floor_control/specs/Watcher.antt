-- A replica of a conference that follows its journal, and what each of its calls does.
use Rattle.std.specs.Prelude.{◌≡◌, ◌≢◌, ℕ, ◌+◌, if◌then◌else◌, nat_le, Bool, true, false, List, ◌++◌, Option, Some, None, option_map}
use Rattle.floor_config.specs.Configuration.{Configuration}
use Rattle.floor_machine.specs.Conference.{Conference, opening}
use Rattle.floor_machine.specs.Change.{IsLawful}
use Rattle.floor_machine.specs.declared.event.Event.{Event}
use Rattle.floor_machine.specs.declared.machine.Refusal.TheVariants.{Broken, Memory}
use Rattle.floor_machine.specs.Journal.{MAX_EVENTS, after}
use Rattle.floor_machine.specs.Machine.{event_refusal, whole}
use Rattle.floor_machine.specs.Next.{next}
use Rattle.floor_room.specs.Ledger.{first_of}
use Rattle.floor_room.specs.declared.refusal.RoomRefusal.{RoomRefusal}
use Rattle.floor_room.specs.declared.refusal.RoomRefusal.TheVariants.{JournalFull, Refused}
use Rattle.floor_control.specs.Watch.{watched, watched_from}

-- the conference, how many events led to it, and whether want of memory has broken off an event
pub record Watcher : Type 0 where
  pub conference : Conference
  pub place : ℕ
  pub is_broken : Bool

-- a watcher of a conference that opens
abbrev pub watching : Configuration → Watcher
watching config = record { conference = opening config; place = 0; is_broken = false }

-- a watcher after one more event
abbrev pub with_event : Watcher → Event → Watcher
with_event w e = record { conference = next w.conference e; place = w.place + 1; is_broken = false }

-- why no event is taken, whichever it is: the watcher is broken, or there were as many as a journal has
abbrev pub closed : Watcher → Option RoomRefusal
closed w = if w.is_broken then Some (Refused Broken) else if nat_le MAX_EVENTS w.place then Some JournalFull else None

-- why this event isn't taken
abbrev pub refusal : Watcher → Event → Option RoomRefusal
refusal w e = first_of (closed w) (option_map Refused (event_refusal (whole w.conference) e))

-- What a call that took an event did: it was lawful, it is counted, and its lines stand behind the text before it.
pub record Followed (old : Watcher) (e : Event) (new : Watcher) (before after : List ℕ) : Type 0 where
  pub lawful : IsLawful old.conference e
  pub next : new ≡ with_event old e
  pub lines : after ≡ before ++ watched (old.place + 1) old.conference e

-- What a call that took an event silently did.
pub record Passed (old : Watcher) (e : Event) (new : Watcher) : Type 0 where
  pub lawful : IsLawful old.conference e
  pub next : new ≡ with_event old e

-- What a call that refused an event left: the watcher and the text as they were, or a broken watcher where memory was refused.
pub record Refusing (old new : Watcher) (before after : List ℕ) (why : RoomRefusal) : Type 0 where
  pub unchanged : why ≢ Refused Memory → new ≡ old
  pub text : why ≢ Refused Memory → after ≡ before
  pub broken : why ≡ Refused Memory → new.is_broken ≡ true

-- all lines of a journal
abbrev pub watched_whole : Configuration → List Event → List ℕ
watched_whole config es = watched_from 1 (opening config) es
