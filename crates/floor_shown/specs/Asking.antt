-- What is said for users, and what answers it.
use Rattle.std.specs.Prelude.{◌==◌, ℕ, List, Option, None, Some, if◌then◌else◌, map, min, unwrap_or}
use Rattle.floor_message.specs.declared.ask.Ask.{Ask}
use Rattle.floor_message.specs.declared.ask.Ask.TheVariants.{FloorRequest}
use Rattle.floor_message.specs.declared.head.Head.{Head}
use Rattle.floor_message.specs.declared.information.Info.{Info}
use Rattle.floor_message.specs.declared.verdicts.Verdict.{Verdict}
use Rattle.floor_rpc.specs.declared.answer.Created.{Created}
use Rattle.floor_rpc.specs.declared.call.Creation.{Creation}
use Rattle.floor_shown.specs.Requests.{overall_of, status_of}
use Rattle.floor_shown.specs.Texts.{octets_in}

-- the head of what is said for a user of a conference; its transaction is 1, since nobody else is told its answer
abbrev pub head_of : ℕ → ℕ → Head
head_of conference user = record { conference = conference; transaction = 1; user = user }

-- the priority that is given, or Normal (RFC 8855, section 5.2.4)
abbrev pub priority_of : Option ℕ → ℕ
priority_of given = min (unwrap_or given 2) 255

-- the FloorRequest of a request, for its beneficiary where another one asks (section 10.1)
abbrev pub creation_ask : Creation → ℕ → Ask
creation_ask creation by =
    FloorRequest (if by == creation.beneficiary then None else Some creation.beneficiary) creation.floors (priority_of creation.priority) (octets_in 62 creation.info)

-- the same verdict on each floor
abbrev pub verdicts_on : Verdict → List ℕ → List (ℕ × Verdict)
verdicts_on verdict floors = map (λ floor. (floor, verdict)) floors

-- a floor request that was made, at this place
abbrev pub created_of : ℕ → Info → Created
created_of place info = record { request = info.request; status = status_of (overall_of info).0; position = (overall_of info).1; place = place }
