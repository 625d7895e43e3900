-- One conference with its journal, and what its calls do.
use Rattle.std.specs.Prelude.{◌≡◌, List, [], ◌∷◌, ◌++◌, length, nat_le, not, if◌then◌else◌, Bool, true, false, Option, Some, None, Result, Ok, Err}
use Rattle.std.specs.Option.{option_map}
use Rattle.floor_config.specs.Configuration.{Configuration}
use Rattle.floor_machine.specs.Conference.{Conference}
use Rattle.floor_machine.specs.declared.event.Event.{Event}
use Rattle.floor_machine.specs.declared.machine.Refusal.TheVariants.{Broken, Ended, Memory}
use Rattle.floor_machine.specs.Parcel.{Parcel}
use Rattle.floor_machine.specs.Change.{IsLawful}
use Rattle.floor_machine.specs.Journal.{MAX_EVENTS, after, parcels_of}
use Rattle.floor_machine.specs.Machine.{event_refusal, whole}
use Rattle.floor_room.specs.declared.refusal.RoomRefusal.{RoomRefusal}
use Rattle.floor_room.specs.declared.refusal.RoomRefusal.TheVariants.{JournalFull, Refused}

-- the configuration, the events so far, and whether an event was broken off
pub record Ledger : Type 0 where
  pub config : Configuration
  pub journal : List Event
  pub is_broken : Bool

-- the ledger of a conference that opens
abbrev pub new_ledger : Configuration → Ledger
new_ledger config = record { config = config; journal = []; is_broken = false }

-- the conference after the journal
abbrev pub conference_of : Ledger → Conference
conference_of l = after l.config l.journal

-- why no event is taken, whichever it is: the ledger is broken, the conference is ended, or the journal is full
abbrev pub closed : Ledger → Option RoomRefusal
closed l =
    if l.is_broken then Some (Refused Broken)
    else if not (conference_of l).is_open then Some (Refused Ended)
    else if nat_le MAX_EVENTS (length l.journal) then Some JournalFull
    else None

-- the first of two refusals
abbrev pub first_of : Option RoomRefusal → Option RoomRefusal → Option RoomRefusal
first_of None other = other
first_of (Some refusal) other = Some refusal

-- why this event isn't taken
abbrev pub refusal : Ledger → Event → Option RoomRefusal
refusal l e = first_of (closed l) (option_map Refused (event_refusal (whole (conference_of l)) e))

-- The call is refused exactly by this refusal; where there is none it is done, or memory was refused.
abbrev pub IsRefusedBy : {T : Type 0} → Option RoomRefusal → Result T RoomRefusal → Type 0
IsRefusedBy (Some refusal) result = result ≡ Err refusal
IsRefusedBy None (Ok value) = Unit {0}
IsRefusedBy None (Err refusal) = refusal ≡ Refused Memory

-- a ledger with one more event
abbrev pub with_entry : Ledger → Event → Ledger
with_entry l e = record { config = l.config; journal = l.journal ++ e ∷ []; is_broken = false }

-- a ledger that is broken off
abbrev pub broken_off : Ledger → Ledger
broken_off l = record l { is_broken = true }

-- The event was taken: nothing refuses it, it is lawful after the journal and stands behind it, and these are the parcels that it calls for.
pub record Added (old new : Ledger) (e : Event) (parcels : List Parcel) : Type 0 where
  pub allowed : refusal old e ≡ None
  pub lawful : IsLawful (conference_of old) e
  pub told : parcels ≡ parcels_of (conference_of old) e
  pub next : new ≡ with_entry old e

-- what a call that failed left: after Memory all but that it is broken is as it was, else all
abbrev pub Unadded : Ledger → Ledger → RoomRefusal → Type 0
Unadded old new JournalFull = new ≡ old
Unadded old new (Refused Memory) = new ≡ broken_off old
Unadded old new (Refused refusal) = new ≡ old
