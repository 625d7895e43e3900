-- What the attributes of a message from a client ask (RFC 8855, section 5.3).
use Rattle.std.specs.Prelude.{ℕ, ◌/◌, ◌==◌, min, Bool, true, false, List, [], ◌∷◌, map, filter_map, Option, Some, None, option_map, option_and_then, if◌then◌else◌}
use Rattle.floor_wire.specs.Types.{BENEFICIARY_ID, FLOOR_ID, FLOOR_REQUEST_ID, PRIORITY, REQUEST_STATUS, PARTICIPANT_PROVIDED_INFO, STATUS_INFO, FLOOR_REQUEST_INFORMATION, FLOOR_REQUEST_STATUS, OVERALL_REQUEST_STATUS}
use Rattle.floor_wire.specs.declared.attribute.Attr.{Attr}
use Rattle.floor_message.specs.Picked.{first, numbers, pairs, octet_strings, groups, distinct, once_by}
use Rattle.floor_message.specs.Text.{text_kept}
use Rattle.floor_message.specs.declared.primitive.Primitive.{Primitive}
use Rattle.floor_message.specs.declared.primitive.Primitive.TheVariants as primitive
use Rattle.floor_message.specs.declared.verdicts.Verdict.{Verdict}
use Rattle.floor_message.specs.declared.verdicts.Verdict.TheVariants.{Accepted, Granted, Denied, Revoked}
use Rattle.floor_message.specs.declared.ask.Ask.{Ask}
use Rattle.floor_message.specs.declared.ask.Ask.TheVariants.{FloorRequest, FloorRelease, FloorRequestQuery, UserQuery, FloorQuery, ChairAction, Hello}

-- a priority stands in the upper 3 bits; above 4 it is read as 4 (section 5.2.4)
abbrev pub priority_of : ℕ × ℕ → ℕ
priority_of p = min (p.0 / 32) 4

-- the priority asked for: Normal, 2, where PRIORITY is absent
abbrev pub priority_asked : Option (ℕ × ℕ) → ℕ
priority_asked None = 2
priority_asked (Some p) = priority_of p

-- a FloorRequest, unless it names no floor or its text has no usable value
abbrev pub floor_request : List ℕ → Option ℕ → ℕ → Option (Option (List ℕ)) → Option Ask
floor_request [] beneficiary priority info = None
floor_request (f ∷ floors) beneficiary priority info = option_map (λ kept. FloorRequest beneficiary (f ∷ floors) priority kept) info

-- the verdict that a status tells (section 5.2.5)
abbrev pub verdict_of : ℕ → Option Verdict
verdict_of status =
    if status == 2 then Some Accepted
    else if status == 3 then Some Granted
    else if status == 4 then Some Denied
    else if status == 7 then Some Revoked
    else None

-- the status in the first REQUEST-STATUS of a group
abbrev pub status_in : List Attr → Option ℕ
status_in inside = option_map (λ s. s.0) (first (pairs REQUEST_STATUS inside))

-- the status in the first OVERALL-REQUEST-STATUS of a group
abbrev pub overall_status : List Attr → Option ℕ
overall_status inside = option_and_then (λ g. status_in g.1) (first (groups OVERALL_REQUEST_STATUS inside))

-- a floor's own status, else the overall one
abbrev pub status_for : Option ℕ → Option ℕ → Option ℕ
status_for overall (Some own) = Some own
status_for overall None = overall

-- the floor of a FLOOR-REQUEST-STATUS, with the verdict on it where it has one
abbrev pub judged : Option ℕ → ℕ × List Attr → ℕ × Option Verdict
judged overall g = (g.0, option_and_then verdict_of (status_for overall (status_in g.1)))

-- the floors that a ChairAction names, each once, the first counting, with the verdict on each that has one
abbrev pub floors_judged : List Attr → List (ℕ × Option Verdict)
floors_judged inside = once_by (λ v. v.0) (map (judged (overall_status inside)) (groups FLOOR_REQUEST_STATUS inside))

-- the floors with their verdicts, where each has one
abbrev pub given : List (ℕ × Option Verdict) → Option (List (ℕ × Verdict))
given [] = Some []
given (v ∷ verdicts) = option_and_then (λ w. option_map (λ ws. (v.0, w) ∷ ws) (given verdicts)) v.1

-- the text in the first STATUS-INFO of a group (section 5.2.9)
abbrev pub status_info_in : List Attr → Option (List ℕ)
status_info_in inside = first (octet_strings STATUS_INFO inside)

-- the text in the first STATUS-INFO inside the first OVERALL-REQUEST-STATUS (section 5.2.18)
abbrev pub overall_reason : List Attr → Option (List ℕ)
overall_reason inside = option_and_then (λ g. status_info_in g.1) (first (groups OVERALL_REQUEST_STATUS inside))

-- the text in the first STATUS-INFO inside the first FLOOR-REQUEST-STATUS that has one, where for a floor named twice the first counts
abbrev pub floor_reason : List Attr → Option (List ℕ)
floor_reason inside = first (filter_map (λ g. status_info_in g.1) (once_by (λ g. g.0) (groups FLOOR_REQUEST_STATUS inside)))

-- the text of the overall status, else that of a floor
abbrev pub reason_for : Option (List ℕ) → Option (List ℕ) → Option (List ℕ)
reason_for (Some overall) own = Some overall
reason_for None own = own

-- the reason that a chair gives, of which at most 30 bytes are kept (section 11.1)
abbrev pub reason_kept : List Attr → Option (Option (List ℕ))
reason_kept inside = text_kept 30 (reason_for (overall_reason inside) (floor_reason inside))

-- a ChairAction, unless it names no floor
abbrev pub chair_action : ℕ → List (ℕ × Verdict) → Option (List ℕ) → Option Ask
chair_action request [] reason = None
chair_action request (v ∷ verdicts) reason = Some (ChairAction request (v ∷ verdicts) reason)

-- what a FLOOR-REQUEST-INFORMATION from a chair asks, unless a floor has no verdict or the reason has no usable value
abbrev pub chair_asked : ℕ × List Attr → Option Ask
chair_asked g = option_and_then (λ verdicts. option_and_then (chair_action g.0 verdicts) (reason_kept g.1)) (given (floors_judged g.1))

-- the primitive is one that a client asks by
abbrev pub is_ask : Primitive → Bool
is_ask primitive.FloorRequest = true
is_ask primitive.FloorRelease = true
is_ask primitive.FloorRequestQuery = true
is_ask primitive.UserQuery = true
is_ask primitive.FloorQuery = true
is_ask primitive.ChairAction = true
is_ask primitive.Hello = true
is_ask _ = false

-- what the attributes ask, unless a required one is missing or has no usable value
abbrev pub fields : Primitive → List Attr → Option Ask
fields primitive.FloorRequest attrs =
    floor_request (distinct (numbers FLOOR_ID attrs)) (first (numbers BENEFICIARY_ID attrs))
    (priority_asked (first (pairs PRIORITY attrs))) (text_kept 62 (first (octet_strings PARTICIPANT_PROVIDED_INFO attrs)))
fields primitive.FloorRelease attrs = option_map FloorRelease (first (numbers FLOOR_REQUEST_ID attrs))
fields primitive.FloorRequestQuery attrs = option_map FloorRequestQuery (first (numbers FLOOR_REQUEST_ID attrs))
fields primitive.UserQuery attrs = Some (UserQuery (first (numbers BENEFICIARY_ID attrs)))
fields primitive.FloorQuery attrs = Some (FloorQuery (distinct (numbers FLOOR_ID attrs)))
fields primitive.ChairAction attrs = option_and_then chair_asked (first (groups FLOOR_REQUEST_INFORMATION attrs))
fields primitive.Hello attrs = Some Hello
fields _ attrs = None
