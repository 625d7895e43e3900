-- The answer to a message by the steps of its reader, each of which makes some of the checks.
use Rattle.std.specs.Prelude.{ℕ, ◌*◌, ◌==◌, not, List, [], ◌∷◌, map, Option, Some, None, if◌then◌else◌}
use Rattle.std.specs.List.{list_any}
use Rattle.floor_wire.specs.Header.{CommonHeader}
use Rattle.floor_wire.specs.Attributes.{Attributes}
use Rattle.floor_wire.specs.View.{items}
use Rattle.floor_message.specs.Ask.{Answer, asks, refused, unanswered}
use Rattle.floor_message.specs.Binding.{Binding}
use Rattle.floor_message.specs.Fields.{is_ask, fields}
use Rattle.floor_message.specs.Picked.{distinct, mandatory}
use Rattle.floor_message.specs.declared.primitive.Primitive.{Primitive}
use Rattle.floor_message.specs.declared.primitive.Primitive.TheVariants as primitive
use Rattle.floor_message.specs.declared.code.ErrorCode.{ErrorCode}
use Rattle.floor_message.specs.declared.code.ErrorCode.TheVariants.{ConferenceDoesNotExist, UserDoesNotExist, UnknownPrimitive, UnknownMandatoryAttribute, UnauthorizedOperation, UnableToParseMessage, UnsupportedVersion}
use Rattle.floor_message.specs.declared.ask.Ask.{Ask}

-- the error code that the header alone is answered by
abbrev pub header_refusal : CommonHeader → Binding → Option ErrorCode
header_refusal h b =
    if not (h.version == 1) then Some UnsupportedVersion
    else if not (h.conference == b.conference) then Some ConferenceDoesNotExist
    else if not (list_any (λ u. u == h.user) b.users) then Some UserDoesNotExist
    else if not (h.user == b.user) then Some UnauthorizedOperation
    else None

-- what is asked, or Unable to Parse Message where that is nothing
abbrev pub by_fields : Option Ask → Answer
by_fields None = refused UnableToParseMessage []
by_fields (Some a) = asks a

-- Unknown Mandatory Attribute where there are such types
abbrev pub by_mandatory : List ℕ → Option Ask → Answer
by_mandatory [] a = by_fields a
by_mandatory (t ∷ types) a = refused UnknownMandatoryAttribute (map (λ k. 2 * k) (t ∷ types))

-- by the attributes, or Unable to Parse Message where the payload spells none
abbrev pub by_attributes : Primitive → Option Attributes → Answer
by_attributes p None = refused UnableToParseMessage []
by_attributes p (Some attrs) = by_mandatory (distinct (mandatory attrs)) (fields p (items attrs))

-- by the primitive: an Error is left unanswered, and what is no ask is an Unknown Primitive
abbrev pub by_primitive : Option Primitive → Option Attributes → Answer
by_primitive None attrs = refused UnknownPrimitive []
by_primitive (Some primitive.Error) attrs = unanswered
by_primitive (Some p) attrs = if is_ask p then by_attributes p attrs else refused UnknownPrimitive []

-- by the header's own checks, and behind them by the primitive
abbrev pub by_header : Option ErrorCode → Option Primitive → Option Attributes → Answer
by_header (Some code) p attrs = refused code []
by_header None p attrs = by_primitive p attrs
