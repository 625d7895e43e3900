-- What is opened of a text, and why one is refused.
use Rattle.std.proofs.Common.{◌≡◌, ℕ, List, [], ◌∷◌, Bool, true, false, IsUtf8, refl, sym, ap, true≢false}
use Rattle.std.proofs.lemmas.Option.{none-some}
use Rattle.std.specs.Prelude.{Option, Some, None, Result, Ok, Err}
use Rattle.floor_config.specs.Configuration.{Configuration}
use Rattle.floor_config.specs.Outcome.{Fails}
use Rattle.floor_config.specs.Reading.{reading}
use Rattle.floor_config.specs.declared.fault.ConfigFault.{ConfigFault}
use Rattle.floor_config.specs.declared.fault.ConfigFault.TheVariants.{Syntax, MissingKey, WrongType, OutOfRange, DoubleUser, DoubleFloor, NoFloor, UnknownChair, DoubleConference, DoublePort, Memory}
use Rattle.floor_diagnosis.specs.Diagnosed.{fault_of}
use Rattle.floor_hub.specs.Hub.{Hub}
use Rattle.floor_ffi.specs.Gives.{IsDiagnosis, OpensFirst, OpensNext, OpensText}
use Rattle.floor_ffi.specs.declared.outcome.Outcome.{Outcome}
use Rattle.floor_ffi.specs.declared.outcome.Outcome.TheVariants.{Done, Nothing, TooShort, NotUtf8, Refused, Fault}

-- what opening conferences comes to
abbrev is_opening : Outcome → Bool
is_opening Done = true
is_opening (Refused why) = true
is_opening Nothing = false
is_opening TooShort = false
is_opening NotUtf8 = false
is_opening (Fault fault) = false

opening-ends : (left : List Configuration) (old new : Hub) (outcome : Outcome) → OpensNext left old new outcome → is_opening outcome ≡ true
opening-ends [] old new outcome next = ap is_opening next.0
opening-ends (config ∷ left) old new outcome next = ap is_opening next.1

-- the conferences of a text that is read were opened
pub opens-text : (text : List ℕ) (configs : List Configuration) (old new : Hub) (opened : ℕ) (outcome : Outcome) → IsUtf8 text → reading text ≡ Ok configs → OpensFirst configs old new outcome opened →
    OpensText text old new opened outcome
opens-text text configs old new opened Done utf8 is first = (utf8, (configs, is, first))
opens-text text configs old new opened (Refused why) utf8 is first = (utf8, (configs, is, first))
opens-text text configs old new opened Nothing utf8 is first = (utf8, (configs, is, first))
opens-text text configs old new opened TooShort utf8 is first = (utf8, (configs, is, first))
opens-text text configs old new opened NotUtf8 utf8 is first = absurd (true≢false (sym (opening-ends _ first.before new NotUtf8 first.next)))
opens-text text configs old new opened (Fault fault) utf8 is first = absurd (true≢false (sym (opening-ends _ first.before new (Fault fault) first.next)))

-- none of a text that is refused was
pub refuses-text : (text : List ℕ) (hub : Hub) (opened : ℕ) (fault : ConfigFault) → IsUtf8 text → Fails fault (reading text) → opened ≡ 0 → OpensText text hub hub opened (Fault fault)
refuses-text text hub opened Memory utf8 fails none = (utf8, none, refl)
refuses-text text hub opened Syntax utf8 fails none = (utf8, fails, none, refl)
refuses-text text hub opened MissingKey utf8 fails none = (utf8, fails, none, refl)
refuses-text text hub opened WrongType utf8 fails none = (utf8, fails, none, refl)
refuses-text text hub opened OutOfRange utf8 fails none = (utf8, fails, none, refl)
refuses-text text hub opened DoubleUser utf8 fails none = (utf8, fails, none, refl)
refuses-text text hub opened DoubleFloor utf8 fails none = (utf8, fails, none, refl)
refuses-text text hub opened NoFloor utf8 fails none = (utf8, fails, none, refl)
refuses-text text hub opened UnknownChair utf8 fails none = (utf8, fails, none, refl)
refuses-text text hub opened DoubleConference utf8 fails none = (utf8, fails, none, refl)
refuses-text text hub opened DoublePort utf8 fails none = (utf8, fails, none, refl)

-- a text without a fault is one
pub fine : (r : Result (List Configuration) ConfigFault) → None ≡ fault_of r → (configs : List Configuration) × (r ≡ Ok configs)
fine (Ok configs) none = (configs, refl)
fine (Err fault) none = absurd (none-some fault none)

abbrev fault_or : Option ConfigFault → ConfigFault
fault_or None = Memory
fault_or (Some fault) = fault

is-fault : (r : Result (List Configuration) ConfigFault) (fault : ConfigFault) → Some fault ≡ fault_of r → r ≡ Err fault
is-fault (Ok configs) fault is = absurd (none-some fault (sym is))
is-fault (Err other) fault is = ap (λ (x : Option ConfigFault). Err (fault_or x)) (sym is)

-- a text with this fault has it
pub faulty : (text : List ℕ) (fault : ConfigFault) → IsUtf8 text → Some fault ≡ fault_of (reading text) → IsDiagnosis text (Fault fault)
faulty text Memory utf8 is = utf8
faulty text Syntax utf8 is = (utf8, is-fault (reading text) Syntax is)
faulty text MissingKey utf8 is = (utf8, is-fault (reading text) MissingKey is)
faulty text WrongType utf8 is = (utf8, is-fault (reading text) WrongType is)
faulty text OutOfRange utf8 is = (utf8, is-fault (reading text) OutOfRange is)
faulty text DoubleUser utf8 is = (utf8, is-fault (reading text) DoubleUser is)
faulty text DoubleFloor utf8 is = (utf8, is-fault (reading text) DoubleFloor is)
faulty text NoFloor utf8 is = (utf8, is-fault (reading text) NoFloor is)
faulty text UnknownChair utf8 is = (utf8, is-fault (reading text) UnknownChair is)
faulty text DoubleConference utf8 is = (utf8, is-fault (reading text) DoubleConference is)
faulty text DoublePort utf8 is = (utf8, is-fault (reading text) DoublePort is)
