-- What one event of a file makes of a room.
use Rattle.std.specs.Prelude.{◌≡◌, true, List, [], ◌∷◌, ◌++◌, None, is_some, if◌then◌else◌}
use Rattle.floor_machine.specs.Change.{IsLawful}
use Rattle.floor_machine.specs.declared.event.Event.{Event}
use Rattle.floor_room.specs.Ledger.{conference_of, refusal, with_entry}
use Rattle.floor_room.specs.Names.{is_memory}
use Rattle.floor_room.specs.Room.{Room}
use Rattle.floor_room.specs.declared.refusal.RoomRefusal.{RoomRefusal}
use Rattle.floor_kept.specs.declared.entry.Entry.{Entry}
use Rattle.floor_kept.specs.declared.entry.Entry.TheVariants.{Happened}
use Rattle.floor_kept.specs.declared.opening.StepFault.{StepFault}
use Rattle.floor_kept.specs.declared.opening.StepFault.TheVariants.{Refused, Memory}

-- The event was taken: nothing refuses it, it is lawful after the journal, and stands behind it.
pub record Ran (old new : Room) (e : Event) : Type 0 where
  pub allowed : refusal old.ledger e ≡ None
  pub lawful : IsLawful (conference_of old.ledger) e
  pub next : new.ledger ≡ with_entry old.ledger e

-- an entry was run, where it is an event, or kept behind the notes
abbrev pub Stepped : Room → Room → List Entry → List Entry → Entry → Type 0
Stepped old new notes more (Happened e) = Ran old new e × (more ≡ notes)
Stepped old new notes more note = (new ≡ old) × (more ≡ notes ++ note ∷ [])

-- the entry is an event that is refused
abbrev pub IsRefusedEntry : Room → Entry → Type 0
IsRefusedEntry room (Happened e) = is_some (refusal room.ledger e) ≡ true
IsRefusedEntry room note = ⊥

abbrev pub fault_of : RoomRefusal → StepFault
fault_of refusal = if is_memory refusal then Memory else Refused
