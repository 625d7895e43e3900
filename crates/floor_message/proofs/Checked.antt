-- What the first check that applies answers is what the reader's steps come to.
use Rattle.std.proofs.Common.{◌≡◌, ℕ, Bool, true, false, not, cond, ◌*◌, List, [], ◌∷◌, map, Option, Some, None, refl, sym}
use Rattle.std.specs.Prelude.{is_some, ◌==◌}
use Rattle.std.specs.List.{list_any}
use Rattle.floor_wire.specs.Attributes.{Attributes}
use Rattle.floor_wire.specs.Header.{CommonHeader}
use Rattle.floor_wire.specs.View.{items}
use Rattle.floor_message.specs.Ask.{Answer, refused, unanswered, Check, when, first_of, is_error, is_served, unknown_types, has_any, wanted, asks_if_any, answer}
use Rattle.floor_message.specs.steps.Answering.{header_refusal, by_fields, by_mandatory, by_attributes, by_primitive, by_header}
use Rattle.floor_message.specs.Binding.{Binding}
use Rattle.floor_message.specs.Fields.{fields}
use Rattle.floor_message.specs.Picked.{distinct, mandatory}
use Rattle.floor_message.specs.Primitive.{primitive_of}
use Rattle.floor_message.specs.declared.primitive.Primitive.{Primitive}
use Rattle.floor_message.specs.declared.primitive.Primitive.TheVariants as primitive
use Rattle.floor_message.specs.declared.code.ErrorCode.TheVariants.{ConferenceDoesNotExist, UserDoesNotExist, UnknownPrimitive, UnknownMandatoryAttribute, UnauthorizedOperation, UnableToParseMessage, UnsupportedVersion}
use Rattle.floor_message.specs.declared.ask.Ask.{Ask}

-- the checks behind those of the header
abbrev content_checks : Option Primitive → Option Attributes → List Check
content_checks p attrs =
    when (is_error p) unanswered
    ∷ when (not (is_served p)) (refused UnknownPrimitive [])
    ∷ when (not (is_some attrs)) (refused UnableToParseMessage [])
    ∷ when (has_any (unknown_types attrs)) (refused UnknownMandatoryAttribute (map (λ k. 2 * k) (unknown_types attrs)))
    ∷ when (not (is_some (wanted p attrs))) (refused UnableToParseMessage [])
    ∷ []

fields_checked : (asked : Option Ask) → by_fields asked ≡ cond (not (is_some asked)) (refused UnableToParseMessage []) (asks_if_any asked)
fields_checked None = refl
fields_checked (Some a) = refl

types_checked : (types : List ℕ) (asked : Option Ask) → by_mandatory types asked
    ≡ cond (has_any types) (refused UnknownMandatoryAttribute (map (λ k. 2 * k) types))
    (cond (not (is_some asked)) (refused UnableToParseMessage []) (asks_if_any asked))
types_checked [] asked = fields_checked asked
types_checked (t ∷ types) asked = refl

-- behind the primitive's checks
attributes_checked : (p : Primitive) (attrs : Option Attributes) → by_attributes p attrs
    ≡ first_of (
    when (not (is_some attrs)) (refused UnableToParseMessage [])
    ∷ when (has_any (unknown_types attrs)) (refused UnknownMandatoryAttribute (map (λ k. 2 * k) (unknown_types attrs)))
    ∷ when (not (is_some (wanted (Some p) attrs))) (refused UnableToParseMessage [])
    ∷ []
    ) (asks_if_any (wanted (Some p) attrs))
attributes_checked p None = refl
attributes_checked p (Some attrs) = types_checked (distinct (mandatory attrs)) (fields p (items attrs))

primitive_checked : (p : Option Primitive) (attrs : Option Attributes) → by_primitive p attrs ≡ first_of (content_checks p attrs) (asks_if_any (wanted p attrs))
primitive_checked None attrs = refl
primitive_checked (Some primitive.Error) attrs = refl
primitive_checked (Some primitive.FloorRequestStatus) attrs = refl
primitive_checked (Some primitive.UserStatus) attrs = refl
primitive_checked (Some primitive.FloorStatus) attrs = refl
primitive_checked (Some primitive.ChairActionAck) attrs = refl
primitive_checked (Some primitive.HelloAck) attrs = refl
primitive_checked (Some primitive.FloorRequest) attrs = attributes_checked primitive.FloorRequest attrs
primitive_checked (Some primitive.FloorRelease) attrs = attributes_checked primitive.FloorRelease attrs
primitive_checked (Some primitive.FloorRequestQuery) attrs = attributes_checked primitive.FloorRequestQuery attrs
primitive_checked (Some primitive.UserQuery) attrs = attributes_checked primitive.UserQuery attrs
primitive_checked (Some primitive.FloorQuery) attrs = attributes_checked primitive.FloorQuery attrs
primitive_checked (Some primitive.ChairAction) attrs = attributes_checked primitive.ChairAction attrs
primitive_checked (Some primitive.Hello) attrs = attributes_checked primitive.Hello attrs

header_checked : (a b c d : Bool) (p : Option Primitive) (attrs : Option Attributes) (checks : List Check) (otherwise : Answer)
    → by_primitive p attrs ≡ first_of checks otherwise
    → by_header (cond a (Some UnsupportedVersion) (cond b (Some ConferenceDoesNotExist) (cond c (Some UserDoesNotExist) (cond d (Some UnauthorizedOperation) None)))) p attrs
    ≡ first_of (
    when a (refused UnsupportedVersion [])
    ∷ when b (refused ConferenceDoesNotExist [])
    ∷ when c (refused UserDoesNotExist [])
    ∷ when d (refused UnauthorizedOperation [])
    ∷ checks
    ) otherwise
header_checked true b c d p attrs checks otherwise h = refl
header_checked false true c d p attrs checks otherwise h = refl
header_checked false false true d p attrs checks otherwise h = refl
header_checked false false false true p attrs checks otherwise h = refl
header_checked false false false false p attrs checks otherwise h = h

pub answer_by_steps : (h : CommonHeader) (b : Binding) (attrs : Option Attributes) → answer h b attrs ≡ by_header (header_refusal h b) (primitive_of h.primitive) attrs
answer_by_steps h b attrs = sym
    (header_checked (not (h.version == 1)) (not (h.conference == b.conference)) (not (list_any (λ u. u == h.user) b.users)) (not (h.user == b.user))
    (primitive_of h.primitive) attrs (content_checks (primitive_of h.primitive) attrs) (asks_if_any (wanted (primitive_of h.primitive) attrs))
    (primitive_checked (primitive_of h.primitive) attrs))
