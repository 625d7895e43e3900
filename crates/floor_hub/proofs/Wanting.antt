-- A room that finds no memory for an event doesn't refuse it: refusals come before want of memory.
use Rattle.std.proofs.Common.{◌≡◌, Bool, true, false, cond, Option, Some, None, length, refl, ap, ◌∙◌}
use Rattle.std.specs.Prelude.{not, nat_le, Result, Err}
use Rattle.std.specs.Option.{option_map}
use Rattle.floor_machine.specs.declared.event.Event.{Event}
use Rattle.floor_machine.specs.declared.machine.Refusal.{Refusal}
use Rattle.floor_machine.specs.declared.machine.Refusal.TheVariants.{Broken, Ended, Memory}
use Rattle.floor_machine.specs.Machine.{event_refusal, whole}
use Rattle.floor_machine.proofs.Lawful.{never_memory}
use Rattle.floor_room.specs.declared.refusal.RoomRefusal.{RoomRefusal}
use Rattle.floor_room.specs.declared.refusal.RoomRefusal.TheVariants.{JournalFull, Refused as ByMachine}
use Rattle.floor_room.specs.Ledger.{IsRefusedBy, Ledger, conference_of, first_of, refusal}

-- no ledger refuses an event by want of memory
pub never : (l : Ledger) (e : Event) → refusal l e ≡ Some (ByMachine Memory) → ⊥
never l e h = by l.is_broken (conference_of l).is_open (nat_le 2000000 (length l.journal)) (event_refusal (whole (conference_of l)) e) refl h
  where
    by : (a b f : Bool) (o : Option Refusal) → o ≡ event_refusal (whole (conference_of l)) e →
        first_of (cond a (Some (ByMachine Broken)) (cond (not b) (Some (ByMachine Ended)) (cond f (Some JournalFull) None))) (option_map ByMachine o) ≡ Some (ByMachine Memory) → ⊥
    by true b f o is h = cc
    by false false f o is h = cc
    by false true true o is h = cc
    by false true false None is h = cc
    by false true false (Some r) is h = let same : Memory ≡ r = cc in never_memory (whole (conference_of l)) e (ap (λ (x : Refusal). Some x) same ∙ is)

-- so an event that memory was refused for isn't refused otherwise
pub allowed : (l : Ledger) (e : Event) → IsRefusedBy {T = Unit {0}} (refusal l e) (Err (ByMachine Memory)) → refusal l e ≡ None
allowed l e h = by (refusal l e) refl h
  where
    is_why : (a b : RoomRefusal) → ◌≡◌ {A = Result (Unit {0}) RoomRefusal} (Err a) (Err b) → b ≡ a
    is_why a b k = cc

    by : (o : Option RoomRefusal) → refusal l e ≡ o → IsRefusedBy {T = Unit {0}} o (Err (ByMachine Memory)) → refusal l e ≡ None
    by None is k = is
    by (Some why) is k = absurd (never l e (is ∙ ap (λ (x : RoomRefusal). Some x) (is_why (ByMachine Memory) why k)))
