-- What a call of the hub has changed in what is shown: of the floor requests that its event changed, where it has added one.
use Rattle.std.specs.Prelude.{◌≡◌, ◌⊎◌, ◌++◌, ◌∷◌, ℕ, [], true, false, Some}
use Rattle.floor_machine.specs.declared.event.Event.{Event}
use Rattle.floor_machine.specs.Machine.{infos_changed}
use Rattle.floor_room.specs.Ledger.{conference_of}
use Rattle.floor_room.specs.Room.{Room}
use Rattle.floor_hub.specs.Hub.{Hub, room_at}

-- Where an event has come to stand behind the journal of a conference, it is what is shown of the requests that the event changed; where
-- every conference that isn't broken off has its journal as it was, it is nothing.
pub record Shows (old new : Hub) : Type 0 where
  pub added : (conference : ℕ) (r s : Room) (e : Event) → room_at old conference ≡ Some r → room_at new conference ≡ Some s →
      s.ledger.journal ≡ r.ledger.journal ++ e ∷ [] → s.ledger.is_broken ≡ false → new.changed ≡ infos_changed (conference_of r.ledger) e
  pub none : ((conference : ℕ) (r s : Room) → room_at old conference ≡ Some r → room_at new conference ≡ Some s →
      (s.ledger.journal ≡ r.ledger.journal) ⊎ (s.ledger.is_broken ≡ true)) → new.changed ≡ []
