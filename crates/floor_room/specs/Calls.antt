-- What the calls of a room do.
use Rattle.std.specs.Prelude.{◌≡◌, ◌⊎◌, ℕ, ◌+◌, List, [], ◌∷◌, ◌++◌, length, Bool, true, false, None}
use Rattle.floor_machine.specs.declared.event.Event.{Event}
use Rattle.floor_machine.specs.declared.machine.Refusal.TheVariants.{Memory}
use Rattle.floor_machine.specs.Parcel.{Parcel}
use Rattle.floor_machine.specs.Change.{IsLawful}
use Rattle.floor_machine.specs.Journal.{parcels_of}
use Rattle.floor_room.specs.declared.refusal.RoomRefusal.{RoomRefusal}
use Rattle.floor_room.specs.declared.refusal.RoomRefusal.TheVariants.{JournalFull, Refused}
use Rattle.floor_room.specs.Ledger.{conference_of, refusal}
use Rattle.floor_room.specs.Outbox.{delivered}
use Rattle.floor_room.specs.Room.{Room, broken_room, joined}

-- behind how many events none has told anything, once an event has told these parcels, or was broken off
abbrev pub told_by : Room → List Parcel → Bool → ℕ
told_by r put true = length r.ledger.journal + 1
told_by r [] false = r.told
told_by r (p ∷ ps) false = length r.ledger.journal + 1

-- the room after an event of which these parcels were queued
abbrev pub with_event : Room → Event → List Parcel → Bool → Room
with_event r e put is_broken =
    record {
      ledger = record { config = r.ledger.config; journal = r.ledger.journal ++ e ∷ []; is_broken = is_broken };
      outboxes = delivered put 1 (r.outboxes ++ joined e);
      told = told_by r put is_broken;
      kept = r.kept;
    }

-- The event was taken: nothing refuses it, it is lawful after the journal, stands behind it, and all that it tells is queued.
pub record Applied (old new : Room) (e : Event) : Type 0 where
  pub allowed : refusal old.ledger e ≡ None
  pub lawful : IsLawful (conference_of old.ledger) e
  pub next : new ≡ with_event old e (parcels_of (conference_of old.ledger) e) false

-- The event stands behind the journal, some first of what it tells is queued, and the room is broken.
pub record Began (old new : Room) (e : Event) : Type 0 where
  pub lawful : IsLawful (conference_of old.ledger) e
  pub put : List Parcel
  pub rest : List Parcel
  pub all : parcels_of (conference_of old.ledger) e ≡ put ++ rest
  pub told : ℕ
  pub next : new ≡ record (with_event old e put true) { told = told }

-- what a call that failed left: after Memory a broken room, as it was or with the event begun; else all as it was
abbrev pub Left : Room → Room → Event → RoomRefusal → Type 0
Left old new e JournalFull = new ≡ old
Left old new e (Refused Memory) = (new ≡ broken_room old) ⊎ Began old new e
Left old new e (Refused refusal) = new ≡ old
