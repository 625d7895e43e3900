-- The checks that each primitive has of its own, in their order (RFC 8855, sections 5.2.6 and 13).
use Rattle.std.specs.Prelude.{ℕ, ◌==◌, ◌&&◌, ◌||◌, not, nat_lt, nat_le, if◌then◌else◌, Bool, true, List, [], ◌∷◌, length, count_by, Option, Some, None, unwrap_or}
use Rattle.std.specs.List.{list_any, list_all}
use Rattle.std.specs.Option.{option_map_or}
use Rattle.floor_config.specs.Lookup.{is_floor, is_user, has_proxy, chair_is}
use Rattle.floor_queue.specs.declared.request.Request.{Request}
use Rattle.floor_queue.specs.Order.{names}
use Rattle.floor_queue.specs.Queue.{request_at, involves}
use Rattle.floor_message.specs.declared.ask.Ask.{Ask}
use Rattle.floor_message.specs.declared.ask.Ask.TheVariants.{FloorRequest, FloorRelease, FloorRequestQuery, UserQuery, FloorQuery, ChairAction, Hello}
use Rattle.floor_message.specs.declared.verdicts.Verdict.{Verdict}
use Rattle.floor_message.specs.declared.verdicts.Verdict.TheVariants.{Accepted, Granted, Denied, Revoked}
use Rattle.floor_message.specs.declared.code.ErrorCode.{ErrorCode}
use Rattle.floor_message.specs.declared.code.ErrorCode.TheVariants.{UserDoesNotExist, UnauthorizedOperation, InvalidFloorId, FloorRequestIdDoesNotExist, MaximumFloorRequestsReached, GenericError}
use Rattle.floor_machine.specs.Conference.{Conference}

-- a check: it applies, and then this error code answers
pub record Check : Type 0 where
  pub applies : Bool
  pub code : ErrorCode

-- a check of a test and an error code
abbrev pub when : Bool → ErrorCode → Check
when applies code = record { applies = applies; code = code }

-- the error code of the first check that applies
abbrev pub first_of : List Check → Option ErrorCode
first_of [] = None
first_of (check ∷ checks) = if check.applies then Some check.code else first_of checks

-- whom a request is for: the sender, where it names no beneficiary
abbrev pub beneficiary_of : ℕ → Option ℕ → ℕ
beneficiary_of user beneficiary = unwrap_or beneficiary user

-- how many ongoing requests for the floor this beneficiary has
abbrev pub requests_for : List Request → ℕ → ℕ → ℕ
requests_for ongoing beneficiary floor = count_by (λ r. r.beneficiary == beneficiary && names r floor) ongoing

-- a verdict that the request's state allows: Revoked on a Granted one, each other on one that isn't (section 11.1)
abbrev pub is_allowed : Bool → Verdict → Bool
is_allowed is_granted Accepted = not is_granted
is_allowed is_granted Granted = not is_granted
is_allowed is_granted Denied = not is_granted
is_allowed is_granted Revoked = is_granted

-- the checks of a FloorRequest (sections 10.1 and 13.1)
abbrev pub request_checks : Conference → ℕ → ℕ → List ℕ → List Check
request_checks s user beneficiary floors =
    when (not (beneficiary == user) && not (has_proxy s.config user)) UnauthorizedOperation
    ∷ when (not (is_user s.config beneficiary)) UserDoesNotExist
    ∷ when (not (list_all (is_floor s.config.floors) floors)) InvalidFloorId
    ∷ when (nat_lt 8 (length floors)) GenericError
    ∷ when (list_any (λ floor. nat_le s.config.limit (requests_for s.ongoing beneficiary floor)) floors) MaximumFloorRequestsReached
    ∷ when (nat_le 256 (length s.ongoing) || s.given == 65535) GenericError
    ∷ []

-- the checks of a FloorRelease of an ongoing request (section 13.4)
abbrev pub release_checks : ℕ → Request → List Check
release_checks user r = when (not (involves r user)) UnauthorizedOperation ∷ []

-- the checks of a ChairAction on an ongoing request (section 13.6)
abbrev pub chair_checks : Conference → ℕ → List (ℕ × Verdict) → Request → List Check
chair_checks s user verdicts r =
    when (not (list_all (λ v. names r v.0) verdicts)) InvalidFloorId
    ∷ when (not (list_all (λ v. chair_is s.config v.0 user) verdicts)) UnauthorizedOperation
    ∷ when (not (list_all (λ v. is_allowed r.is_granted v.1) verdicts)) GenericError
    ∷ []

-- the checks of a message that names a floor request: it has to be ongoing
abbrev pub on_request : Conference → ℕ → (Request → List Check) → Option ErrorCode
on_request s request checks =
    option_map_or (λ r. first_of (checks r)) (request_at s.ongoing request) (Some FloorRequestIdDoesNotExist)

-- the error code by which the own checks of a user's message refuse it, the first that applies
unfoldable pub refusal : Conference → ℕ → Ask → Option ErrorCode
refusal s user (FloorRequest beneficiary floors priority info) =
    first_of (request_checks s user (beneficiary_of user beneficiary) floors)
refusal s user (FloorRelease request) = on_request s request (release_checks user)
refusal s user (FloorRequestQuery request) = on_request s request (λ r. [])
refusal s user (UserQuery beneficiary) =
    first_of (when (not (option_map_or (is_user s.config) beneficiary true)) UserDoesNotExist ∷ [])
refusal s user (FloorQuery floors) = first_of (when (not (list_all (is_floor s.config.floors) floors)) InvalidFloorId ∷ [])
refusal s user (ChairAction request verdicts reason) = on_request s request (chair_checks s user verdicts)
refusal s user Hello = None
