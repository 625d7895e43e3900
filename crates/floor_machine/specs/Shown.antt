-- What is shown of a floor request (RFC 8855, sections 5.2.5, 5.2.14 to 5.2.18).
use Rattle.std.specs.Prelude.{ℕ, ◌==◌, if◌then◌else◌, List, map, filter, fold, max, Option, Some, None, is_none, option_and_then}
use Rattle.std.specs.List.{list_all}
use Rattle.std.specs.Option.{option_map_or}
use Rattle.floor_config.specs.Configuration.{Configuration}
use Rattle.floor_config.specs.declared.floors.Floor.{Floor}
use Rattle.floor_config.specs.Lookup.{user_with}
use Rattle.floor_queue.specs.declared.request.Request.{Request}
use Rattle.floor_queue.specs.declared.requested_floor.RequestedFloor.{RequestedFloor}
use Rattle.floor_queue.specs.Requested.{is_accepted}
use Rattle.floor_queue.specs.Order.{is_due, granted_if, position}
use Rattle.floor_message.specs.Status.{status_number}
use Rattle.floor_message.specs.declared.status.RequestStatus.{RequestStatus}
use Rattle.floor_message.specs.declared.status.RequestStatus.TheVariants.{Pending, Accepted, Granted}
use Rattle.floor_message.specs.declared.information.Who.{Who}
use Rattle.floor_message.specs.declared.information.Info.{Info}

-- a floor request as an event leaves it: ongoing, or ended with a status
pub record Entry : Type 0 where
  pub request : Request
  pub ending : Option RequestStatus

-- a floor request that is ongoing
abbrev pub entry_of : Request → Entry
entry_of r = record { request = r; ending = None }

-- those that are ongoing
abbrev pub ongoing_of : List Entry → List Request
ongoing_of entries = map (λ e. e.request) (filter (λ e. is_none e.ending) entries)

-- the ongoing ones are settled; those that ended stay as they are, and count for nothing
abbrev pub settle_entries : List Floor → List Entry → List Entry
settle_entries floors entries =
    map {A = Entry} (λ e. if is_none e.ending
    then record e { request = granted_if (is_due floors (ongoing_of entries) e.request) e.request }
    else e) entries

-- the status of a request: how it ended; else Granted; else Accepted where all its floors are, and Pending where one isn't
abbrev pub overall_status : Entry → RequestStatus
overall_status e =
    option_map_or (λ ending. ending) e.ending
    (if e.request.is_granted then Granted
    else if list_all (λ f. is_accepted f.status) e.request.floors then Accepted
    else Pending)

-- the status of one of its floors: how the request ended; else Granted where the request is; else the floor's own
abbrev pub floor_status : Entry → RequestedFloor → RequestStatus
floor_status e f =
    option_map_or (λ ending. ending) e.ending
    (if e.request.is_granted then Granted else if is_accepted f.status then Accepted else Pending)

-- the queue position of a request for a floor, among the ongoing ones: 0 where it ended
abbrev pub position_in : List Floor → List Request → Entry → ℕ → ℕ
position_in floors ongoing e floor = if is_none e.ending then position floors ongoing e.request floor else 0

-- the greatest of its queue positions
abbrev pub overall_position : List Floor → List Request → Entry → ℕ
overall_position floors ongoing e = fold max 0 (map (λ f. position_in floors ongoing e f.floor) e.request.floors)

-- a user by the display name alone (sections 5.2.14 and 5.2.16)
abbrev pub named : Configuration → ℕ → Who
named config id = record { user = id; name = option_and_then (λ user. user.name) (user_with config id); uri = None }

-- a user by the display name and the URI
abbrev pub described : Configuration → ℕ → Who
described config id =
    record {
      user = id;
      name = option_and_then (λ user. user.name) (user_with config id);
      uri = option_and_then (λ user. user.uri) (user_with config id);
    }

-- One floor of a request, with its status and queue position.
abbrev pub floor_shown : List Floor → List Request → Entry → RequestedFloor → ℕ × Option (ℕ × ℕ)
floor_shown floors ongoing e f = (f.floor, Some (status_number (floor_status e f), position_in floors ongoing e f.floor))

-- What is shown of a request among the ongoing ones: its overall status with the greatest position, the reason that a chair gave,
-- each floor's status, the beneficiary, the requester where it is another user, the priority, and what the requester said of it.
unfoldable pub info_of : Configuration → List Request → Entry → Info
info_of config ongoing e =
    record {
      request = e.request.number;
      overall = Some (status_number (overall_status e), overall_position config.floors ongoing e);
      reason = e.request.reason;
      floors = map (floor_shown config.floors ongoing e) e.request.floors;
      beneficiary = Some (named config e.request.beneficiary);
      requester = if e.request.requester == e.request.beneficiary then None else Some (named config e.request.requester);
      priority = Some e.request.priority;
      info = e.request.info;
    }

-- what is shown of an ongoing request
abbrev pub info : Configuration → List Request → Request → Info
info config ongoing r = info_of config ongoing (entry_of r)
