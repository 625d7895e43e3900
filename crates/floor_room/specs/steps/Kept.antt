-- What a ledger keeps of its machine, and what a room keeps of its outboxes.
use Rattle.std.specs.Prelude.{◌≡◌, ℕ, ◌+◌, ◌*◌, ◌<◌, ◌≤◌, List, [], ◌∷◌, length, false}
use Rattle.floor_machine.specs.Machine.{Machine, whole}
use Rattle.floor_machine.specs.Journal.{IsJournal}
use Rattle.floor_room.specs.Ledger.{Ledger, conference_of}
use Rattle.floor_room.specs.Outbox.{Outbox}
use Rattle.floor_room.specs.Room.{Room, IsRoom}

-- the journal is one of the configuration; unless an event was broken off, the machine is that of the journal
pub record IsLedger (l : Ledger) (machine : Machine) : Type 0 where
  pub journal : IsJournal l.config l.journal
  pub whole : l.is_broken ≡ false → machine ≡ whole (conference_of l)

-- no outbox has seen more parcels than memory can hold, so often as there were events
abbrev pub AreCounted : ℕ → List Outbox → Type 0
AreCounted events [] = Unit {0}
AreCounted events (o ∷ os) = (o.taken + length o.held ≤ 18446744073709551616 * events) × AreCounted events os

-- the room fact; the counts of parcels fit; and unless an event was broken off, there is room for the outbox of one more member
pub record Keeps (r : Room) (room_for : ℕ) : Type 0 where
  pub room : IsRoom r
  pub counted : AreCounted (length r.ledger.journal) r.outboxes
  pub spare : r.ledger.is_broken ≡ false → length r.outboxes < room_for
