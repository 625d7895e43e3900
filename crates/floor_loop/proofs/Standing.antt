-- How many members are live where nothing but their number may be against a join.
use Rattle.std.proofs.Common.{◌≡◌, ℕ, Bool, true, false, cond, ap, refl, sym, ◌∙◌, arith, length, Some, None}
use Rattle.std.specs.Prelude.{Option, ◌&&◌, is_none, nat_le, nat_lt, not, count_by}
use Rattle.std.proofs.lemmas.Bool.Decides.{nat_tests}
use Rattle.floor_config.specs.Lookup.{is_user}
use Rattle.floor_machine.specs.declared.machine.Refusal.TheVariants.{Broken as ByBroken, Ended as ByEnded}
use Rattle.floor_room.specs.declared.refusal.RoomRefusal.TheVariants.{JournalFull, Refused}
use Rattle.floor_room.specs.declared.status.Phase.{Phase}
use Rattle.floor_room.specs.declared.status.Status.{Status}
use Rattle.floor_room.specs.Ledger.{closed, conference_of}
use Rattle.floor_room.specs.Room.{Room}
use Rattle.floor_room.specs.Standing.{config_of}
use Rattle.floor_room.specs.Status.{IsStatus, phase_of}
use Rattle.floor_loop.specs.Away.{beside}
use Rattle.floor_loop.specs.steps.Entered.{takes_events}

fewer : (a b : ℕ) → nat_lt a b ≡ not (nat_le b a)
fewer a b = by (nat_le b a) refl
  where
    yes : (a b : ℕ) → nat_le b a ≡ true → nat_lt a b ≡ false
    yes a b e = grind (arith, nat_tests)

    no : (a b : ℕ) → nat_le b a ≡ false → nat_lt a b ≡ true
    no a b e = grind (arith, nat_tests)

    by : (t : Bool) → nat_le b a ≡ t → nat_lt a b ≡ not (nat_le b a)
    by true e = yes a b e ∙ ap not (sym e)
    by false e = no a b e ∙ ap not (sym e)

-- a room takes events exactly where its phase and its events say so
takes : (broken opened : Bool) (events : ℕ) → takes_events (phase_of broken opened) events
    ≡ is_none (cond broken (Some (Refused ByBroken)) (cond (not opened) (Some (Refused ByEnded)) (cond (nat_le 2000000 events) (Some JournalFull) None)))
takes true opened events = refl
takes false false events = refl
takes false true events = fewer events 2000000 ∙ by (nat_le 2000000 events)
  where
    by : (b : Bool) → not b ≡ is_none (cond b (Some JournalFull) None)
    by true = refl
    by false = refl

takes-is : (r : Room) (s : Status) → IsStatus r.ledger s → takes_events s.phase s.events ≡ is_none (closed r.ledger)
takes-is r s is =
    ap (λ (p : Phase). takes_events p s.events) is.phase
    ∙ ap (takes_events (phase_of r.ledger.is_broken (conference_of r.ledger).is_open)) is.events
    ∙ takes r.ledger.is_broken (conference_of r.ledger).is_open (length r.ledger.journal)

abbrev count : Room → ℕ
count r = count_by (λ m. m.is_live) (conference_of r.ledger).members

pub not-open : (r : Room) (user : ℕ) (s : Status) → IsStatus r.ledger s → takes_events s.phase s.events ≡ false → ◌≡◌ {A = Option ℕ} None (beside r user)
not-open r user s is e = ap (λ (b : Bool). cond (b && is_user (config_of r.ledger) user) (Some (count r)) None) (sym e ∙ takes-is r s is)

pub not-user : (r : Room) (user : ℕ) → is_user (config_of r.ledger) user ≡ false → ◌≡◌ {A = Option ℕ} None (beside r user)
not-user r user e = by (is_none (closed r.ledger)) ∙ ap (λ (b : Bool). cond (is_none (closed r.ledger) && b) (Some (count r)) None) (sym e)
  where
    by : (b : Bool) → ◌≡◌ {A = Option ℕ} None (cond (b && false) (Some (count r)) None)
    by true = refl
    by false = refl

pub beside-is : (r : Room) (user : ℕ) (s : Status) → IsStatus r.ledger s → takes_events s.phase s.events ≡ true → is_user (config_of r.ledger) user ≡ true → ◌≡◌ {A = Option ℕ} (Some s.members) (beside r user)
beside-is r user s is takes_it u =
    ap Some (is.members (whole r.ledger.is_broken (conference_of r.ledger).is_open (sym (ap (λ (p : Phase). takes_events p s.events) is.phase) ∙ takes_it)))
    ∙ ap (λ (b : Bool). cond (b && true) (Some (count r)) None) (sym takes_it ∙ takes-is r s is)
    ∙ ap (λ (b : Bool). cond (is_none (closed r.ledger) && b) (Some (count r)) None) (sym u)
  where
    whole : (broken opened : Bool) → takes_events (phase_of broken opened) s.events ≡ true → broken ≡ false
    whole false opened e = refl
    whole true opened e = absurd cc
