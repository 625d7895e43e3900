-- How far a run has come.
use Rattle.std.specs.Prelude.{◌≡◌, ℕ, ◌≤◌, List, [], ◌∷◌, length, false, Some, Result, IfOk, map, ◌≢◌, ◌⊎◌}
use Rattle.floor_machine.specs.Journal.{Q}
use Rattle.floor_machine.specs.Parcel.{Parcel}
use Rattle.floor_room.specs.Outbox.{Outbox}
use Rattle.floor_room.specs.Ledger.{conference_of}
use Rattle.floor_room.specs.Room.{Room}
use Rattle.floor_hub.specs.declared.connection.Place.{Place}
use Rattle.floor_hub.specs.declared.running.Memory.{Memory}
use Rattle.floor_hub.specs.declared.step.Answer.{Answer}
use Rattle.floor_hub.specs.declared.step.Step.{Step}
use Rattle.floor_hub.specs.Hub.{Hub, room_at}
use Rattle.floor_hub.specs.StandsFor.{StandsFor}
use Rattle.floor_hub.specs.World as world
use Rattle.floor_hub.specs.World.{World, turn}
use Rattle.floor_machine.specs.declared.machine.Refusal.TheVariants.{Broken, Memory as OutOfMemory}
use Rattle.floor_room.specs.declared.refusal.RoomRefusal.TheVariants.{Refused as ByMachine}
use Rattle.floor_hub.specs.declared.refusal.HubRefusal.{HubRefusal}
use Rattle.floor_hub.specs.declared.refusal.HubRefusal.TheVariants.{ByRoom, Memory as NoMemory}

-- nothing was taken of what waits
abbrev pub AreUntaken : List Outbox → Type 0
AreUntaken [] = Unit {0}
AreUntaken (o ∷ os) = (o.taken ≡ 0) × AreUntaken os

-- what was queued to the member n, where nothing was taken and the room isn't broken off, is what the journal calls for
abbrev pub QueuedIn : {E : Type 0} → Room → ℕ → Result (List ℕ) E → Type 0
QueuedIn r n result = 1 ≤ n → n ≤ length (conference_of r.ledger).members → AreUntaken r.outboxes → r.ledger.is_broken ≡ false →
    IfOk result (λ bytes. bytes ≡ Q r.ledger.config r.ledger.journal n)

abbrev pub place_of : Place → world.Place
place_of p = record { conference = p.conference; n = p.n }

-- no room is broken off, from none anything was taken, and no conference was forgotten
abbrev pub AreWhole : Hub → Type 0
AreWhole h = ((c : ℕ) (r : Room) → room_at h c ≡ Some r → (r.ledger.is_broken ≡ false) × AreUntaken r.outboxes) × (h.forgotten ≡ [])

-- the hub stands for the world, these are its places, and all that was queued still waits
pub record IsRunning (h : Hub) (arrived : List Place) (w : World) : Type 0 where
  pub stands : StandsFor h w
  pub places : map place_of arrived ≡ w.places
  pub whole : AreWhole h

-- a step that met no want of memory is the world's, with this answer
abbrev pub Goes : Hub → Hub → List Place → List Place → Step → Result Answer Memory → Type 0
Goes old new before after s result = (w : World) → IsRunning old before w → IfOk result (λ a. IsRunning new after (turn w s).world × ((turn w s).answer ≡ a))

-- after this refusal a run goes on: it isn't want of memory, now or before
abbrev pub IsRunOn : HubRefusal → Type 0
IsRunOn r = (r ≢ NoMemory) × (r ≢ ByRoom (ByMachine OutOfMemory)) × (r ≢ ByRoom (ByMachine Broken))

-- after this refusal it doesn't: it is want of memory, now or before
abbrev pub StopsRun : HubRefusal → Type 0
StopsRun r = (r ≡ NoMemory) ⊎ ((r ≡ ByRoom (ByMachine OutOfMemory)) ⊎ (r ≡ ByRoom (ByMachine Broken)))

-- the bytes of the first of these parcels, if there is one
abbrev pub first_bytes : List Parcel → List ℕ
first_bytes [] = []
first_bytes (p ∷ ps) = p.bytes
