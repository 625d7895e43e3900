-- What the numbers tell.
use Rattle.std.proofs.Common.{◌≡◌, ◌≢◌, ◌∙◌, ℕ, List, [], ◌∷◌, Bool, true, false, Option, Some, None, cond, refl, sym, ap, eqb-true}
use Rattle.std.proofs.lemmas.Option.{none-some}
use Rattle.std.specs.Prelude.{nat_eq}
use Rattle.floor_config.specs.declared.fault.ConfigFault.TheVariants as fault
use Rattle.floor_machine.specs.declared.machine.Refusal.TheVariants as machine
use Rattle.floor_room.specs.declared.refusal.RoomRefusal.TheVariants as room
use Rattle.floor_hub.specs.declared.refusal.HubRefusal.TheVariants as hub
use Rattle.floor_ffi.specs.Laws.{NumbersTell}
use Rattle.floor_ffi.specs.Numbers.{name_of, number_of, told_by_number}
use Rattle.floor_ffi.specs.declared.outcome.Outcome.{Outcome}
use Rattle.floor_ffi.specs.declared.outcome.Outcome.TheVariants.{Done, Nothing, TooShort, NotUtf8, Refused, Fault}
use Rattle.floor_ffi.specs.declared.outcome.TheConstants.{OUTCOMES}
use Rattle.floor_ffi.specs.steps.Numbered.{find_numbered}

-- each outcome is found by its number
found : (o : Outcome) → find_numbered (number_of o) OUTCOMES ≡ Some (told_by_number o)
found Done = refl
found Nothing = refl
found TooShort = refl
found NotUtf8 = refl
found (Refused hub.Used) = refl
found (Refused hub.NoConference) = refl
found (Refused hub.Forgotten) = refl
found (Refused hub.Running) = refl
found (Refused hub.BadMessage) = refl
found (Refused hub.NoConnection) = refl
found (Refused hub.Memory) = refl
found (Refused (hub.ByRoom room.JournalFull)) = refl
found (Refused (hub.ByRoom (room.Refused machine.Broken))) = refl
found (Refused (hub.ByRoom (room.Refused machine.Ended))) = refl
found (Refused (hub.ByRoom (room.Refused machine.NoMember))) = refl
found (Refused (hub.ByRoom (room.Refused machine.NoUser))) = refl
found (Refused (hub.ByRoom (room.Refused machine.Full))) = refl
found (Refused (hub.ByRoom (room.Refused machine.NoRequest))) = refl
found (Refused (hub.ByRoom (room.Refused machine.Cut))) = refl
found (Refused (hub.ByRoom (room.Refused machine.BadCount))) = refl
found (Refused (hub.ByRoom (room.Refused machine.OutOfRange))) = refl
found (Refused (hub.ByRoom (room.Refused machine.DoubleUser))) = refl
found (Refused (hub.ByRoom (room.Refused machine.DoubleFloor))) = refl
found (Refused (hub.ByRoom (room.Refused machine.NoFloor))) = refl
found (Refused (hub.ByRoom (room.Refused machine.UnknownChair))) = refl
found (Refused (hub.ByRoom (room.Refused machine.Memory))) = refl
found (Fault fault.Syntax) = refl
found (Fault fault.MissingKey) = refl
found (Fault fault.WrongType) = refl
found (Fault fault.OutOfRange) = refl
found (Fault fault.DoubleUser) = refl
found (Fault fault.DoubleFloor) = refl
found (Fault fault.NoFloor) = refl
found (Fault fault.UnknownChair) = refl
found (Fault fault.DoubleConference) = refl
found (Fault fault.DoublePort) = refl
found (Fault fault.Memory) = refl

-- and has the name of what is found
same-name : (o : Outcome) → name_of (told_by_number o) ≡ name_of o
same-name Done = refl
same-name Nothing = refl
same-name TooShort = refl
same-name NotUtf8 = refl
same-name (Refused refusal) = refl
same-name (Fault fault.Syntax) = refl
same-name (Fault fault.MissingKey) = refl
same-name (Fault fault.WrongType) = refl
same-name (Fault fault.OutOfRange) = refl
same-name (Fault fault.DoubleUser) = refl
same-name (Fault fault.DoubleFloor) = refl
same-name (Fault fault.NoFloor) = refl
same-name (Fault fault.UnknownChair) = refl
same-name (Fault fault.DoubleConference) = refl
same-name (Fault fault.DoublePort) = refl
same-name (Fault fault.Memory) = refl

abbrev or_done : Option Outcome → Outcome
or_done None = Done
or_done (Some o) = o

pub numbers-tell : NumbersTell
numbers-tell one other same = ap or_done (sym (found one) ∙ ap (λ (n : ℕ). find_numbered n OUTCOMES) same ∙ found other)

has : (n : ℕ) (os : List Outcome) (o : Outcome) → find_numbered n os ≡ Some o → nat_eq (number_of o) n ≡ true
has n [] o is = absurd (none-some o is)
has n (x ∷ os) o is = by (nat_eq (number_of x) n) refl is (has n os o)
  where
    by : (b : Bool) → nat_eq (number_of x) n ≡ b → cond b (Some x) (find_numbered n os) ≡ Some o → (find_numbered n os ≡ Some o → nat_eq (number_of o) n ≡ true) → nat_eq (number_of o) n ≡ true
    by true e is more = ap (λ (y : Option Outcome). nat_eq (number_of (or_done y)) n) (sym is) ∙ e
    by false e is more = more is

-- what is found has the number
pub has-number : (n : ℕ) (o : Outcome) → find_numbered n OUTCOMES ≡ Some o → number_of o ≡ n
has-number n o is = eqb-true (number_of o) n (has n OUTCOMES o is)

-- what is found by the number of an outcome has its name
pub named : (n : ℕ) (o : Outcome) → number_of o ≡ n → (x : Outcome) → find_numbered n OUTCOMES ≡ Some x → name_of x ≡ name_of o
named n o is x e = ap (λ (y : Option Outcome). name_of (or_done y)) (sym e ∙ ap (λ (k : ℕ). find_numbered k OUTCOMES) (sym is) ∙ found o) ∙ same-name o

-- an outcome with the number is found
pub not-none : (n : ℕ) (o : Outcome) → number_of o ≡ n → find_numbered n OUTCOMES ≢ None
not-none n o is e = none-some (told_by_number o) (sym e ∙ ap (λ (k : ℕ). find_numbered k OUTCOMES) (sym is) ∙ found o)
