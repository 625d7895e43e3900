-- What a message asks, under the binding of its connection: the first check that applies answers (RFC 8855, sections 5.1 to 5.3 and 13).
use Rattle.std.specs.Prelude.{◌≡◌, ℕ, ◌*◌, ◌≤◌, ◌==◌, not, Bool, true, false, List, [], ◌∷◌, length, drop, map, Option, Some, None, is_some, option_and_then, Result, Ok, Err, if◌then◌else◌}
use Rattle.std.specs.List.{list_any}
use Rattle.floor_wire.specs.Header.{CommonHeader, header_of}
use Rattle.floor_wire.specs.Attributes.{Attributes}
use Rattle.floor_wire.specs.View.{items}
use Rattle.floor_wire.specs.Spelled.{spelled}
use Rattle.floor_message.specs.Picked.{distinct, mandatory}
use Rattle.floor_message.specs.Binding.{Binding}
use Rattle.floor_message.specs.Primitive.{primitive_of}
use Rattle.floor_message.specs.Fields.{is_ask, fields}
use Rattle.floor_message.specs.declared.primitive.Primitive.{Primitive}
use Rattle.floor_message.specs.declared.primitive.Primitive.TheVariants as primitive
use Rattle.floor_message.specs.declared.code.ErrorCode.{ErrorCode}
use Rattle.floor_message.specs.declared.code.ErrorCode.TheVariants.{ConferenceDoesNotExist, UserDoesNotExist, UnknownPrimitive, UnknownMandatoryAttribute, UnauthorizedOperation, UnableToParseMessage, UnsupportedVersion}
use Rattle.floor_message.specs.declared.ask.Ask.{Ask}
use Rattle.floor_message.specs.declared.ask.AskFault.{AskFault}
use Rattle.floor_message.specs.declared.ask.AskFault.TheVariants as fault

-- what a message comes to: what it asks, an Error with details, or nothing
pub data Answer : Type 0 where
  asks : Ask → Answer
  refused : ErrorCode → List ℕ → Answer
  unanswered : Answer

-- a check: it applies, and then the message comes to this
pub record Check : Type 0 where
  pub applies : Bool
  pub answer : Answer

-- a check that applies so, and what the message comes to then
abbrev pub when : Bool → Answer → Check
when applies answer = record { applies = applies; answer = answer }

-- what the first check that applies answers, or what it comes to otherwise
abbrev pub first_of : List Check → Answer → Answer
first_of [] otherwise = otherwise
first_of (check ∷ checks) otherwise = if check.applies then check.answer else first_of checks otherwise

-- the message is itself an Error
abbrev pub is_error : Option Primitive → Bool
is_error (Some primitive.Error) = true
is_error _ = false

-- the primitive is one that a client asks by
abbrev pub is_served : Option Primitive → Bool
is_served None = false
is_served (Some p) = is_ask p

-- the unknown types with M set, each once
abbrev pub unknown_types : Option Attributes → List ℕ
unknown_types None = []
unknown_types (Some attrs) = distinct (mandatory attrs)

-- there is one
abbrev pub has_any : List ℕ → Bool
has_any [] = false
has_any (t ∷ types) = true

-- what the attributes ask, where no required one is missing or without a usable value
abbrev pub wanted : Option Primitive → Option Attributes → Option Ask
wanted p attrs = option_and_then (λ p. option_and_then (λ a. fields p (items a)) attrs) p

-- The checks in their order: of the header (section 5.1), of the primitive (section 5.3), and of the attributes that the payload
-- spells (section 5.2). An Error is left unanswered; each unknown type stands in the upper 7 bits of a detail (section 5.2.6.1).
abbrev pub checks : CommonHeader → Binding → Option Primitive → Option Attributes → List Check
checks h b p attrs =
    when (not (h.version == 1)) (refused UnsupportedVersion [])
    ∷ when (not (h.conference == b.conference)) (refused ConferenceDoesNotExist [])
    ∷ when (not (list_any (λ u. u == h.user) b.users)) (refused UserDoesNotExist [])
    ∷ when (not (h.user == b.user)) (refused UnauthorizedOperation [])
    ∷ when (is_error p) unanswered
    ∷ when (not (is_served p)) (refused UnknownPrimitive [])
    ∷ when (not (is_some attrs)) (refused UnableToParseMessage [])
    ∷ when (has_any (unknown_types attrs)) (refused UnknownMandatoryAttribute (map (λ k. 2 * k) (unknown_types attrs)))
    ∷ when (not (is_some (wanted p attrs))) (refused UnableToParseMessage [])
    ∷ []

-- what is asked; where that is nothing, the last check applies
abbrev pub asks_if_any : Option Ask → Answer
asks_if_any None = unanswered
asks_if_any (Some a) = asks a

-- what a message comes to, by its header and the attributes that its payload spells
abbrev pub answer : CommonHeader → Binding → Option Attributes → Answer
answer h b attrs = first_of (checks h b (primitive_of h.primitive) attrs) (asks_if_any (wanted (primitive_of h.primitive) attrs))

-- what a message comes to, by its bytes
unfoldable pub ask : List ℕ → Binding → Answer
ask bytes b = answer (header_of bytes) b (spelled (drop 12 bytes))

-- the answer is handed out, or memory was refused
abbrev pub IsAnswer : Answer → Result (Option Ask) AskFault → Type 0
IsAnswer a (Ok (Some asked)) = a ≡ asks asked
IsAnswer a (Ok None) = a ≡ unanswered
IsAnswer a (Err fault.Memory) = Unit {0}
IsAnswer a (Err (fault.Error code details)) = a ≡ refused code details

-- the details, if it is an Error, name each of the 110 unknown types at most once, and so fit an ERROR-CODE
abbrev pub HasShortDetails : AskFault → Type 0
HasShortDetails fault.Memory = Unit {0}
HasShortDetails (fault.Error code details) = length details ≤ 110
