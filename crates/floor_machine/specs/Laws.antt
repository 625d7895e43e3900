-- Laws of the floor machine: what is shown differs where anything differs, what is sent to one member is what it is told, and the
-- events that are taken are the lawful ones.
use Rattle.std.specs.Prelude.{◌≡◌, ◌↔◌, ℕ, true, List, map, None, is_some}
use Rattle.floor_config.specs.Configuration.{Configuration}
use Rattle.floor_message.specs.declared.information.Info.{Info}
use Rattle.floor_message.specs.Primitive.{primitive_of}
use Rattle.floor_wire.specs.Header.{header_of}
use Rattle.floor_wire.specs.Message.{IsMessage}
use Rattle.floor_machine.specs.Conference.{Conference, opening, user_of}
use Rattle.floor_machine.specs.declared.event.Event.{Event}
use Rattle.floor_machine.specs.declared.event.Event.TheVariants.{Message, Say}
use Rattle.floor_machine.specs.Said.{sayable}
use Rattle.floor_machine.specs.Change.{IsLawful, change}
use Rattle.floor_machine.specs.Reply.{reply}
use Rattle.floor_machine.specs.Machine.{event_refusal, whole}
use Rattle.floor_machine.specs.Same.{same_info, same_infos}
use Rattle.floor_machine.specs.Journal.{IsLawfulFrom, parcel, parcels_from, told_from, sent_to}

-- two floor requests are shown alike exactly where all that is shown of them is equal
abbrev pub SameIsEqual : Type 0
SameIsEqual = (x y : Info) → (same_info x y ≡ true) ↔ (x ≡ y)

-- two lists of floor requests are shown alike exactly where all that is shown of them is equal
abbrev pub InfosSameIsEqual : Type 0
InfosSameIsEqual = (xs ys : List Info) → (same_infos xs ys ≡ true) ↔ (xs ≡ ys)

-- of all parcels of lawful events, those to n are what the events tell n
abbrev pub SentIsTold : Type 0
SentIsTold = (config : Configuration) (es : List Event) (n : ℕ) → IsLawfulFrom (opening config) es →
    sent_to n (parcels_from (opening config) es) ≡ map (parcel n) (told_from (opening config) es n)

-- a message of the event is one whole message
abbrev pub IsWhole : Event → Type 0
IsWhole (Message n bytes) = IsMessage bytes
IsWhole (Say user bytes) = IsMessage bytes
IsWhole _ = Unit {0}

-- a machine that no event has broken off takes an event exactly where it is lawful
abbrev pub TakenIsLawful : Type 0
TakenIsLawful = (s : Conference) (e : Event) → IsWhole e → (event_refusal (whole s) e ≡ None) ↔ IsLawful s e

-- where its primitive is one that is said, what is said for n's user does what it would as a message of n, and is answered the same
abbrev pub SaidIsSent : Type 0
SaidIsSent = (s : Conference) (n : ℕ) (bytes : List ℕ) → is_some (sayable (primitive_of (header_of bytes).primitive)) ≡ true →
    (change s (Say (user_of s n) bytes) ≡ change s (Message n bytes)) × (reply s (Say (user_of s n) bytes) ≡ reply s (Message n bytes))
