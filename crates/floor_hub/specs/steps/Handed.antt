-- What a call has handed out of what it changed in one room.
use Rattle.std.specs.Prelude.{◌≡◌, ◌⊎◌, ◌++◌, ◌∷◌, ℕ, List, [], true, false, Option, Some, None}
use Rattle.floor_message.specs.declared.information.Info.{Info}
use Rattle.floor_machine.specs.declared.event.Event.{Event}
use Rattle.floor_machine.specs.Machine.{infos_changed}
use Rattle.floor_room.specs.Ledger.{conference_of}
use Rattle.floor_room.specs.Room.{Room}
use Rattle.floor_hub.specs.declared.connection.Connection.{Connection}

-- The room went from r to s, and what the event changed that it took, if it took one, is handed out.
pub record Hands (r s : Room) (changed : List Info) : Type 0 where
  pub added : (e : Event) → s.ledger.journal ≡ r.ledger.journal ++ e ∷ [] → s.ledger.is_broken ≡ false → changed ≡ infos_changed (conference_of r.ledger) e
  pub none : (s.ledger.journal ≡ r.ledger.journal) ⊎ (s.ledger.is_broken ≡ true) → changed ≡ []

-- The same of the room of this conference. Without a room nothing is handed out.
pub record HandedBy (rooms now : ℕ → Option Room) (conference : ℕ) (changed : List Info) : Type 0 where
  pub absent : rooms conference ≡ None → changed ≡ []
  pub there : (r s : Room) → rooms conference ≡ Some r → now conference ≡ Some s → Hands r s changed

-- the same of a connection's room; without a connection nothing is handed out
abbrev pub HandedOf : Option Connection → (ℕ → Option Room) → (ℕ → Option Room) → List Info → Type 0
HandedOf None rooms now changed = changed ≡ []
HandedOf (Some x) rooms now changed = HandedBy rooms now x.conference changed
