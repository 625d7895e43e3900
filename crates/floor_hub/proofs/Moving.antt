-- What each call of a hub does to the room that it is for.
use Rattle.std.proofs.Common.{◌≡◌, ◌⊎◌, ℕ, List, true, refl, sym, ap, inl, inr, Some, None}
use Rattle.std.specs.Prelude.{Option, Result, Ok, Err, IfErr, OnOk}
use Rattle.std.specs.Option.{option_map}
use Rattle.std.proofs.lemmas.Option.{none-some}
use Rattle.floor_machine.specs.Machine.{event_refusal, whole}
use Rattle.floor_machine.specs.declared.event.Event.{Event}
use Rattle.floor_machine.specs.declared.event.Event.TheVariants.{Join, Message, Leave}
use Rattle.floor_machine.specs.declared.machine.Refusal.TheVariants.{Broken, Ended, NoMember, NoUser, Full, NoRequest, Cut, BadCount, Memory, OutOfRange, DoubleUser, DoubleFloor, NoFloor, UnknownChair}
use Rattle.floor_room.specs.Calls.{Applied, Began, Left}
use Rattle.floor_room.specs.Ledger.{closed, conference_of, first_of, refusal}
use Rattle.floor_room.specs.Room.{Room, broken_room}
use Rattle.floor_room.specs.declared.refusal.RoomRefusal.{RoomRefusal}
use Rattle.floor_room.specs.declared.refusal.RoomRefusal.TheVariants.{JournalFull, Refused as ByMachine}
use Rattle.floor_hub.specs.declared.refusal.HubRefusal.{HubRefusal}
use Rattle.floor_hub.specs.declared.refusal.HubRefusal.TheVariants.{ByRoom}
use Rattle.floor_hub.specs.declared.step.Served.{Served}
use Rattle.floor_hub.specs.steps.Serving.{AttachFailsIn, EventIn, LeaveFailsIn, LeavesIn, ServeFailsIn, ServedIn}
use Rattle.floor_hub.proofs.Known.{Went}
use Rattle.floor_hub.proofs.Left.{free}

-- a room that doesn't refuse an event takes events
first-none : (r : Room) (e : Event) → refusal r.ledger e ≡ None → closed r.ledger ≡ None
first-none r e h = by (closed r.ledger) (option_map ByMachine (event_refusal (whole (conference_of r.ledger)) e)) h
  where
    by : (y z : Option RoomRefusal) → first_of y z ≡ None → y ≡ None
    by None z h = refl
    by (Some y) z h = absurd (none-some y (sym h))

pub applied-went : (r s : Room) (e : Event) → Applied r s e → Went r s
applied-went r s e t = inr (first-none r e t.allowed, inr (e, t))

broken-went : (r s : Room) → closed r.ledger ≡ None → s ≡ broken_room r → Went r s
broken-went r s none e = inr (none, inl (ap (λ (z : Room). z.ledger.is_broken) e))

pub left-went : (e : Event) (r s : Room) (why : RoomRefusal) → (why ≡ ByMachine Memory → refusal r.ledger e ≡ None) → Left r s e why → Went r s
left-went e r s JournalFull free left = inl left
left-went e r s (ByMachine Broken) free left = inl left
left-went e r s (ByMachine Ended) free left = inl left
left-went e r s (ByMachine NoMember) free left = inl left
left-went e r s (ByMachine NoUser) free left = inl left
left-went e r s (ByMachine Full) free left = inl left
left-went e r s (ByMachine NoRequest) free left = inl left
left-went e r s (ByMachine Cut) free left = inl left
left-went e r s (ByMachine BadCount) free left = inl left
left-went e r s (ByMachine OutOfRange) free left = inl left
left-went e r s (ByMachine DoubleUser) free left = inl left
left-went e r s (ByMachine DoubleFloor) free left = inl left
left-went e r s (ByMachine NoFloor) free left = inl left
left-went e r s (ByMachine UnknownChair) free left = inl left
left-went e r s (ByMachine Memory) free left = inr (first-none r e (free refl), inl (by left))
  where
    by : (s ≡ broken_room r) ⊎ Began r s e → s.ledger.is_broken ≡ true
    by (inl off) = ap (λ (z : Room). z.ledger.is_broken) off
    by (inr began) = ap (λ (z : Room). z.ledger.is_broken) began.next

-- a room was asked to take an event
pub event-went : (e : Event) (r s : Room) (res : Result (Unit {0}) HubRefusal) → EventIn e r s res → Went r s
event-went e r s (Ok v) h = applied-went r s e h.0
event-went e r s (Err x) h = left-went e r s h.1.0 (free r e h.1.0 h.1.2) h.1.3

-- a connection was served
pub served-went : (r s : Room) (n : ℕ) (held rest : List ℕ) (res : Result Served HubRefusal) → ServedIn r s n held rest res → Went r s
served-went r s n held rest (Ok Served.Nothing) f = inl f.served.2
served-went r s n held rest (Ok Served.Message) f = applied-went r s (Message n f.served.0) f.served.3
served-went r s n held rest (Err y) f = by f.failed.0 f.failed.2
  where
    by : (why : RoomRefusal) → ServeFailsIn r s n held rest why → Went r s
    by why (inl h) = inl h.2
    by why (inr (inl h)) = inl h.4
    by why (inr (inr (inl h))) = broken-went r s h.1 h.4
    by why (inr (inr (inr h))) = left-went (Message n h.0) r s why (free r (Message n h.0) why h.3) h.4

-- a connection has left
pub leave-went : (r s : Room) (n : ℕ) (res : Result (Unit {0}) HubRefusal) → OnOk res (LeavesIn r s n) → IfErr res (λ x. (why : RoomRefusal) × (x ≡ ByRoom why) × LeaveFailsIn r s n why) → Went r s
leave-went r s n (Ok v) ok err = by ok
  where
    by : LeavesIn r s n → Went r s
    by (inl h) = inl h.1
    by (inr t) = applied-went r s (Leave n) t
leave-went r s n (Err x) ok err = left-went (Leave n) r s err.0 (free r (Leave n) err.0 err.2.refused) err.2.after

-- an attach has failed
pub attach-went : (r s : Room) (user : ℕ) (why : RoomRefusal) → AttachFailsIn r s user why → Went r s
attach-went r s user why (inl h) = left-went (Join user) r s why (free r (Join user) why h.0) h.1
attach-went r s user why (inr h) = inr (first-none r (Join user) h.1.1.allowed, inl (ap (λ (z : Room). z.ledger.is_broken) h.1.2))

-- an attach was done
pub joined-went : (r s : Room) (user : ℕ) → Applied r s (Join user) → Went r s
joined-went r s user t = applied-went r s (Join user) t
