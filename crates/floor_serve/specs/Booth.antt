-- A booth: one conference with its journal, the sender of each member that ever joined, and whom to wake.
use Rattle.std.specs.Prelude.{◌≡◌, ◌⊎◌, ℕ, List, [], ◌∷◌, ◌++◌, length, true, false, Option, Some, None, Result, OnOk, IfErr, is_some}
use Rattle.floor_config.specs.Configuration.{Configuration}
use Rattle.floor_machine.specs.declared.event.Event.{Event}
use Rattle.floor_machine.specs.declared.event.Event.TheVariants.{Leave}
use Rattle.floor_machine.specs.declared.machine.Refusal.TheVariants.{Memory}
use Rattle.floor_machine.specs.Parcel.{Parcel}
use Rattle.floor_machine.specs.Conference.{is_live}
use Rattle.floor_machine.specs.Change.{IsLawful}
use Rattle.floor_machine.specs.Journal.{IsJournal, parcels_of}
use Rattle.floor_room.specs.declared.refusal.RoomRefusal.{RoomRefusal}
use Rattle.floor_room.specs.declared.refusal.RoomRefusal.TheVariants.{JournalFull, Refused}
use Rattle.floor_room.specs.Ledger.{IsRefusedBy, Ledger, conference_of, new_ledger, refusal, with_entry}
use Rattle.floor_outbox.specs.Ends.{PairId, Sender}
use Rattle.floor_serve.specs.Senders.{AreFed, fed, pairs_of, sender_of, without}

-- the ledger of the conference, the senders in the order of joining, and the pairs whose takers are to be woken
pub record Booth : Type 0 where
  pub ledger : Ledger
  pub senders : List (Option Sender)
  pub waking : List PairId

abbrev pub new_booth : Configuration → Booth
new_booth config = record { ledger = new_ledger config; senders = []; waking = [] }

-- What holds of a ledger and its senders: the journal is one of the configuration; there are as many places for senders as members ever joined; each sender
-- was put what the journal calls for; and unless the conference has ended or an event was broken off, each live member has its sender.
pub record AreKept (l : Ledger) (senders : List (Option Sender)) : Type 0 where
  pub journal : IsJournal l.config l.journal
  pub members : length senders ≡ length (conference_of l).members
  pub sent : AreFed l.config l.journal l.is_broken 1 senders
  pub seated : l.is_broken ≡ false → (conference_of l).is_open ≡ true → (n : ℕ) → is_live (conference_of l) n ≡ true → is_some (sender_of senders n) ≡ true

-- what holds of each booth
abbrev pub IsBooth : Booth → Type 0
IsBooth b = AreKept b.ledger b.senders

-- the sender of a pair into which nothing was put yet
abbrev pub opened : PairId → List (Option Sender)
opened pair = Some (record { pair = pair; put = [] }) ∷ []

-- a booth with one more event, these senders, of whom these parcels were put, and whoever was told to be woken
abbrev pub with_event : Booth → Event → List Parcel → List (Option Sender) → Booth
with_event b e put senders = record { ledger = with_entry b.ledger e; senders = fed put 1 senders; waking = b.waking ++ pairs_of senders put }

-- The event was taken, with these more senders: it is lawful after the journal and stands behind it, nothing is broken off, all that it tells was put, and
-- each member that it told is to be woken.
pub record Applied (old new : Booth) (e : Event) (more : List (Option Sender)) : Type 0 where
  pub allowed : refusal old.ledger e ≡ None
  pub lawful : IsLawful (conference_of old.ledger) e
  pub next : new ≡ with_event old e (parcels_of (conference_of old.ledger) e) (old.senders ++ more)

-- The event stands behind the journal, and some first of what it tells was put.
pub record Began (old new : Booth) (e : Event) (more : List (Option Sender)) : Type 0 where
  pub lawful : IsLawful (conference_of old.ledger) e
  pub put : List Parcel
  pub rest : List Parcel
  pub all : parcels_of (conference_of old.ledger) e ≡ put ++ rest
  pub ledger : new.ledger ≡ record (with_entry old.ledger e) { is_broken = true }
  pub senders : new.senders ≡ fed put 1 (old.senders ++ more)

-- a booth that is broken off
abbrev pub off : Booth → Booth
off b = record b { ledger = record b.ledger { is_broken = true } }

-- what a call that failed left: after Memory a broken booth, as it was or with the event begun; else all as it was
abbrev pub Left : Booth → Booth → Event → RoomRefusal → Type 0
Left old new e JournalFull = new ≡ old
Left old new e (Refused Memory) = (new ≡ off old) ⊎ Began old new e []
Left old new e (Refused refusal) = new ≡ old

-- the same of a join, which may also meet a want of memory before the event, and changes nothing then
abbrev pub LeftJoin : Booth → Booth → Event → RoomRefusal → Type 0
LeftJoin old new e JournalFull = new ≡ old
LeftJoin old new e (Refused Memory) = (new ≡ old) ⊎ (new ≡ off old) ⊎ ((pair : PairId) × Began old new e (opened pair))
LeftJoin old new e (Refused refusal) = new ≡ old

-- The member has left, and its sender was taken out.
pub record Parted (old new : Booth) (n : ℕ) : Type 0 where
  pub between : Booth
  pub left : Applied old between (Leave n) []
  pub next : new ≡ record between { senders = without between.senders n }

-- what a parting that failed left: what the leave left, with the member's sender or without it
abbrev pub LeftParting : Booth → Booth → ℕ → RoomRefusal → Type 0
LeftParting old new n refusal =
    (between : Booth) × Left old between (Leave n) refusal × ((new ≡ between) ⊎ (new ≡ record between { senders = without between.senders n }))

-- the conference has ended, or an event was broken off
abbrev pub IsClosed : Booth → Type 0
IsClosed b = (b.ledger.is_broken ≡ true) ⊎ ((conference_of b.ledger).is_open ≡ false)

-- What a parting did: where it was done, the member has left and its sender was taken out; a closed conference has no sender of it in either case.
pub record HasParted (result : Result (Unit {0}) RoomRefusal) (old new : Booth) (n : ℕ) : Type 0 where
  pub took : OnOk result (Parted old new n)
  pub refused : IsRefusedBy (refusal old.ledger (Leave n)) result
  pub left : IfErr result (LeftParting old new n)
  pub closed : IsClosed new → sender_of new.senders n ≡ None

-- the member isn't live, or the conference has ended, or an event was broken off
abbrev pub IsGone : Booth → ℕ → Type 0
IsGone b n = (b.ledger.is_broken ≡ true) ⊎ ((conference_of b.ledger).is_open ≡ false) ⊎ (is_live (conference_of b.ledger) n ≡ false)
