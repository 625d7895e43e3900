-- The attributes of each message, in the order in which they are written, and its bytes (RFC 8855, sections 5.2 and 5.3).
use Rattle.std.specs.Prelude.{ℕ, ◌*◌, ◌/◌, false, List, [], ◌∷◌, ◌++◌, length, map, Option, Some, None, option_map, option_to_list}
use Rattle.floor_wire.specs.Types.{BENEFICIARY_ID, FLOOR_ID, FLOOR_REQUEST_ID, PRIORITY, REQUEST_STATUS, ERROR_CODE, PARTICIPANT_PROVIDED_INFO, STATUS_INFO, SUPPORTED_ATTRIBUTES, SUPPORTED_PRIMITIVES, USER_DISPLAY_NAME, USER_URI, BENEFICIARY_INFORMATION, FLOOR_REQUEST_INFORMATION, REQUESTED_BY_INFORMATION, FLOOR_REQUEST_STATUS, OVERALL_REQUEST_STATUS}
use Rattle.floor_wire.specs.Header.{header_bytes}
use Rattle.floor_wire.specs.Spelling.{canon}
use Rattle.floor_wire.specs.View.{attributes_of}
use Rattle.floor_wire.specs.declared.attribute.Attr.{Attr}
use Rattle.floor_wire.specs.declared.attribute.Body.{Body}
use Rattle.floor_wire.specs.declared.attribute.Body.TheVariants.{Num, Pair, Group, Octets}
use Rattle.floor_message.specs.Primitive.{primitive_number}
use Rattle.floor_message.specs.declared.primitive.Primitive.{Primitive}
use Rattle.floor_message.specs.declared.primitive.Primitive.TheVariants as primitive
use Rattle.floor_message.specs.declared.head.Head.{Head}
use Rattle.floor_message.specs.declared.verdicts.Verdict.{Verdict}
use Rattle.floor_message.specs.declared.verdicts.Verdict.TheVariants.{Accepted, Granted, Denied, Revoked}
use Rattle.floor_message.specs.declared.ask.Ask.{Ask}
use Rattle.floor_message.specs.declared.ask.Ask.TheVariants.{FloorRequest, FloorRelease, FloorRequestQuery, UserQuery, FloorQuery, ChairAction, Hello}
use Rattle.floor_message.specs.declared.information.Who.{Who}
use Rattle.floor_message.specs.declared.information.Info.{Info}
use Rattle.floor_message.specs.declared.tell.Tell.{Tell}
use Rattle.floor_message.specs.declared.tell.Tell.TheVariants.{FloorRequestStatus, UserStatus, FloorStatus, ChairActionAck, HelloAck, Error}

-- an attribute with M clear
abbrev pub plain : ℕ → Body → Attr
plain kind body = record { kind = kind; must = false; body = body }

-- an attribute that is a number
abbrev pub number : ℕ → ℕ → Attr
number kind n = plain kind (Num n)

-- an attribute that is octets
abbrev pub octets : ℕ → List ℕ → Attr
octets kind bytes = plain kind (Octets bytes)

-- an attribute that is a group
abbrev pub group : ℕ → ℕ → List Attr → Attr
group kind n inside = plain kind (Group n (attributes_of inside))

-- one attribute where there is a value, none where there is none
abbrev pub optional : {A : Type 0} → (A → Attr) → Option A → List Attr
optional f o = option_to_list (option_map f o)

-- PRIORITY: the priority in the upper 3 bits, the others clear (section 5.2.4)
abbrev pub priority_attr : ℕ → Attr
priority_attr priority = plain PRIORITY (Pair (32 * priority) 0)

-- REQUEST-STATUS: a status with its queue position (section 5.2.5)
abbrev pub status_attr : ℕ × ℕ → Attr
status_attr s = plain REQUEST_STATUS (Pair s.0 s.1)

-- a user's group: the display name, then the URI
abbrev pub who_attr : ℕ → Who → Attr
who_attr kind w = group kind w.user (optional (octets USER_DISPLAY_NAME) w.name ++ optional (octets USER_URI) w.uri)

-- FLOOR-REQUEST-STATUS: a floor, with its status where it is shown (section 5.2.17)
abbrev pub floor_attr : ℕ × Option (ℕ × ℕ) → Attr
floor_attr f = group FLOOR_REQUEST_STATUS f.0 (optional status_attr f.1)

-- what OVERALL-REQUEST-STATUS holds: the status of the whole floor request, and then a reason, each where it is there (section 5.2.18)
abbrev pub overall_inside : Option (ℕ × ℕ) → Option (List ℕ) → List Attr
overall_inside status reason = optional status_attr status ++ optional (octets STATUS_INFO) reason

-- OVERALL-REQUEST-STATUS, where it holds anything
abbrev pub overall_attrs : ℕ → Option (ℕ × ℕ) → Option (List ℕ) → List Attr
overall_attrs request None None = []
overall_attrs request None (Some reason) = group OVERALL_REQUEST_STATUS request (overall_inside None (Some reason)) ∷ []
overall_attrs request (Some status) reason = group OVERALL_REQUEST_STATUS request (overall_inside (Some status) reason) ∷ []

-- what FLOOR-REQUEST-INFORMATION holds (section 5.2.15)
abbrev pub info_attrs : Info → List Attr
info_attrs i =
    overall_attrs i.request i.overall i.reason
    ++ map floor_attr i.floors
    ++ optional (who_attr BENEFICIARY_INFORMATION) i.beneficiary
    ++ optional (who_attr REQUESTED_BY_INFORMATION) i.requester
    ++ optional priority_attr i.priority
    ++ optional (octets PARTICIPANT_PROVIDED_INFO) i.info

-- FLOOR-REQUEST-INFORMATION
abbrev pub info_attr : Info → Attr
info_attr i = group FLOOR_REQUEST_INFORMATION i.request (info_attrs i)

-- the attributes of a message from the server
abbrev pub tell_attrs : Tell → List Attr
tell_attrs (FloorRequestStatus info) = info_attr info ∷ []
tell_attrs (UserStatus who infos) = optional (who_attr BENEFICIARY_INFORMATION) who ++ map info_attr infos
tell_attrs (FloorStatus floor infos) = optional (number FLOOR_ID) floor ++ map info_attr infos
tell_attrs ChairActionAck = []
tell_attrs (HelloAck primitives attributes) = octets SUPPORTED_PRIMITIVES primitives ∷ octets SUPPORTED_ATTRIBUTES (map (λ k. 2 * k) attributes) ∷ []
tell_attrs (Error code details) = octets ERROR_CODE (code ∷ details) ∷ []

-- the primitive of a message from the server
abbrev pub tell_primitive : Tell → Primitive
tell_primitive (FloorRequestStatus info) = primitive.FloorRequestStatus
tell_primitive (UserStatus who infos) = primitive.UserStatus
tell_primitive (FloorStatus floor infos) = primitive.FloorStatus
tell_primitive ChairActionAck = primitive.ChairActionAck
tell_primitive (HelloAck primitives attributes) = primitive.HelloAck
tell_primitive (Error code details) = primitive.Error

-- the status that tells a verdict (section 5.2.5)
abbrev pub status_of : Verdict → ℕ
status_of Accepted = 2
status_of Granted = 3
status_of Denied = 4
status_of Revoked = 7

-- FLOOR-REQUEST-STATUS: a floor, with the verdict on it as its status, at position 0
abbrev pub verdict_attr : ℕ × Verdict → Attr
verdict_attr v = group FLOOR_REQUEST_STATUS v.0 (status_attr (status_of v.1, 0) ∷ [])

-- the attributes of a message from a client
abbrev pub ask_attrs : Ask → List Attr
ask_attrs (FloorRequest beneficiary floors priority info) =
    map (number FLOOR_ID) floors ++ optional (number BENEFICIARY_ID) beneficiary
    ++ optional (octets PARTICIPANT_PROVIDED_INFO) info ++ priority_attr priority ∷ []
ask_attrs (FloorRelease request) = number FLOOR_REQUEST_ID request ∷ []
ask_attrs (FloorRequestQuery request) = number FLOOR_REQUEST_ID request ∷ []
ask_attrs (UserQuery beneficiary) = optional (number BENEFICIARY_ID) beneficiary
ask_attrs (FloorQuery floors) = map (number FLOOR_ID) floors
ask_attrs (ChairAction request verdicts reason) = group FLOOR_REQUEST_INFORMATION request (overall_attrs request None reason ++ map verdict_attr verdicts) ∷ []
ask_attrs Hello = []

-- the primitive of a message from a client
abbrev pub ask_primitive : Ask → Primitive
ask_primitive (FloorRequest beneficiary floors priority info) = primitive.FloorRequest
ask_primitive (FloorRelease request) = primitive.FloorRelease
ask_primitive (FloorRequestQuery request) = primitive.FloorRequestQuery
ask_primitive (UserQuery beneficiary) = primitive.UserQuery
ask_primitive (FloorQuery floors) = primitive.FloorQuery
ask_primitive (ChairAction request verdicts reason) = primitive.ChairAction
ask_primitive Hello = primitive.Hello

-- a message of this primitive with these attributes
abbrev pub message_bytes : Primitive → Head → List Attr → List ℕ
message_bytes p head attrs =
    let payload = canon (attributes_of attrs) in
    header_bytes (primitive_number p) (length payload / 4) head.conference head.transaction head.user ++ payload

-- a message from the server
abbrev pub tell_bytes : Head → Tell → List ℕ
tell_bytes head tell = message_bytes (tell_primitive tell) head (tell_attrs tell)

-- a message from a client
abbrev pub ask_bytes : Head → Ask → List ℕ
ask_bytes head ask = message_bytes (ask_primitive ask) head (ask_attrs ask)
