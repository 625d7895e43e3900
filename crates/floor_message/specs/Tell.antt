-- What a message from the server tells (RFC 8855, sections 5.2 and 5.3).
use Rattle.std.specs.Prelude.{ℕ, ◌/◌, ◌==◌, List, [], ◌∷◌, drop, map, Option, Some, None, option_map, option_and_then, if◌then◌else◌}
use Rattle.floor_wire.specs.Types.{FLOOR_ID, PRIORITY, REQUEST_STATUS, ERROR_CODE, PARTICIPANT_PROVIDED_INFO, SUPPORTED_ATTRIBUTES, SUPPORTED_PRIMITIVES, USER_DISPLAY_NAME, USER_URI, BENEFICIARY_INFORMATION, FLOOR_REQUEST_INFORMATION, REQUESTED_BY_INFORMATION, FLOOR_REQUEST_STATUS, OVERALL_REQUEST_STATUS}
use Rattle.floor_wire.specs.Header.{CommonHeader, header_of}
use Rattle.floor_wire.specs.Attributes.{Attributes}
use Rattle.floor_wire.specs.Spelled.{spelled}
use Rattle.floor_wire.specs.View.{items}
use Rattle.floor_wire.specs.declared.attribute.Attr.{Attr}
use Rattle.floor_message.specs.Picked.{first, numbers, pairs, octet_strings, groups, mandatory}
use Rattle.floor_message.specs.Fields.{priority_of, overall_reason}
use Rattle.floor_message.specs.Primitive.{primitive_of}
use Rattle.floor_message.specs.declared.primitive.Primitive.{Primitive}
use Rattle.floor_message.specs.declared.primitive.Primitive.TheVariants as primitive
use Rattle.floor_message.specs.declared.head.Head.{Head}
use Rattle.floor_message.specs.declared.information.Who.{Who}
use Rattle.floor_message.specs.declared.information.Info.{Info}
use Rattle.floor_message.specs.declared.tell.Tell.{Tell}
use Rattle.floor_message.specs.declared.tell.Tell.TheVariants.{FloorRequestStatus, UserStatus, FloorStatus, ChairActionAck, HelloAck, Error}

-- a user, as a group shows it (sections 5.2.14 and 5.2.16)
abbrev pub who_of : ℕ × List Attr → Who
who_of g = record { user = g.0; name = first (octet_strings USER_DISPLAY_NAME g.1); uri = first (octet_strings USER_URI g.1) }

-- a floor, with its status and queue position where it has any (section 5.2.17)
abbrev pub floor_of : ℕ × List Attr → ℕ × Option (ℕ × ℕ)
floor_of g = (g.0, first (pairs REQUEST_STATUS g.1))

-- the status and queue position in the first OVERALL-REQUEST-STATUS (section 5.2.18)
abbrev pub overall_of : List Attr → Option (ℕ × ℕ)
overall_of inside = option_and_then (λ g. first (pairs REQUEST_STATUS g.1)) (first (groups OVERALL_REQUEST_STATUS inside))

-- a floor request, as a group shows it (section 5.2.15)
abbrev pub info_of : ℕ × List Attr → Info
info_of g = record {
  request = g.0;
  overall = overall_of g.1;
  reason = overall_reason g.1;
  floors = map floor_of (groups FLOOR_REQUEST_STATUS g.1);
  beneficiary = option_map who_of (first (groups BENEFICIARY_INFORMATION g.1));
  requester = option_map who_of (first (groups REQUESTED_BY_INFORMATION g.1));
  priority = option_map priority_of (first (pairs PRIORITY g.1));
  info = first (octet_strings PARTICIPANT_PROVIDED_INFO g.1);
}

-- the floor requests of a message
abbrev pub infos_of : List Attr → List Info
infos_of attrs = map info_of (groups FLOOR_REQUEST_INFORMATION attrs)

-- an error code with its details, where there is a code (section 5.2.6)
abbrev pub error_of : List ℕ → Option Tell
error_of [] = None
error_of (code ∷ details) = Some (Error code details)

-- what the server supports, where both lists are there; a type stands in the upper 7 bits (sections 5.2.10 and 5.2.11)
abbrev pub hello_of : Option (List ℕ) → Option (List ℕ) → Option Tell
hello_of (Some primitives) (Some types) = Some (HelloAck primitives (map (λ b. b / 2) types))
hello_of (Some primitives) None = None
hello_of None types = None

-- what the attributes tell, unless a required one is missing
abbrev pub tell_of : Primitive → List Attr → Option Tell
tell_of primitive.FloorRequestStatus attrs = option_map (λ g. FloorRequestStatus (info_of g)) (first (groups FLOOR_REQUEST_INFORMATION attrs))
tell_of primitive.UserStatus attrs = Some (UserStatus (option_map who_of (first (groups BENEFICIARY_INFORMATION attrs))) (infos_of attrs))
tell_of primitive.FloorStatus attrs = Some (FloorStatus (first (numbers FLOOR_ID attrs)) (infos_of attrs))
tell_of primitive.ChairActionAck attrs = Some ChairActionAck
tell_of primitive.HelloAck attrs = hello_of (first (octet_strings SUPPORTED_PRIMITIVES attrs)) (first (octet_strings SUPPORTED_ATTRIBUTES attrs))
tell_of primitive.Error attrs = option_and_then error_of (first (octet_strings ERROR_CODE attrs))
tell_of _ attrs = None

-- nothing, where an unknown attribute has M set
abbrev pub unless_mandatory : List ℕ → Option Tell → Option Tell
unless_mandatory [] told = told
unless_mandatory (t ∷ types) told = None

-- what the payload of a primitive tells, where it spells attributes
abbrev pub by_payload : Primitive → Option Attributes → Option Tell
by_payload p attrs = option_and_then (λ a. unless_mandatory (mandatory a) (tell_of p (items a))) attrs

-- what a message tells, by its header and the attributes that its payload spells
abbrev pub told : CommonHeader → Option Attributes → Option Tell
told h attrs = if h.version == 1 then option_and_then (λ p. by_payload p attrs) (primitive_of h.primitive) else None

-- the fields of a header that a message is answered by
abbrev pub head_of : CommonHeader → Head
head_of h = record { conference = h.conference; transaction = h.transaction; user = h.user }

-- what a message tells and under which head, by its bytes; None where it tells nothing
unfoldable pub tell : List ℕ → Option (Head × Tell)
tell bytes = option_map (λ t. (head_of (header_of bytes), t)) (told (header_of bytes) (spelled (drop 12 bytes)))
