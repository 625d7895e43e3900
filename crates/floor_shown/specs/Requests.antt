-- A floor request, as it is shown to control clients.
use Rattle.std.specs.Prelude.{◌≡◌, ◌==◌, ℕ, Bool, false, None, List, Option, if◌then◌else◌, map, option_map, unwrap_or}
use Rattle.std.specs.Option.{option_map_or}
use Rattle.floor_message.specs.declared.information.Info.{Info}
use Rattle.floor_message.specs.declared.information.Who.{Who}
use Rattle.floor_message.specs.declared.status.RequestStatus.{RequestStatus}
use Rattle.floor_message.specs.declared.status.RequestStatus.TheVariants.{Pending, Accepted, Granted, Denied, Cancelled, Released, Revoked}
use Rattle.floor_rpc.specs.declared.picture.FloorStatus.{FloorStatus}
use Rattle.floor_rpc.specs.declared.picture.RequestShown.{RequestShown}
use Rattle.floor_shown.specs.Texts.{text_in}

-- the status that a number tells (RFC 8855, section 5.2.5); Pending, where none does
abbrev pub status_of : ℕ → RequestStatus
status_of number =
    if number == 2 then Accepted else
    (if number == 3 then Granted else
    (if number == 4 then Denied else
    (if number == 5 then Cancelled else
    (if number == 6 then Released else
    (if number == 7 then Revoked else Pending)))))

-- the user of whom something is shown; 0 where none is
abbrev pub user_in : Option Who → ℕ
user_in who = option_map_or (λ w. w.user) who 0

-- a floor is shown as granted
abbrev pub is_granted_at : Option (ℕ × ℕ) → Bool
is_granted_at status = option_map_or (λ s. s.0 == 3) status false

-- its status and queue position; Pending, where none is shown
abbrev pub overall_of : Info → ℕ × ℕ
overall_of info = unwrap_or info.overall (1, 0)

-- one of its floors, with its status, or that of the whole request
abbrev pub floor_in : ℕ → ℕ × Option (ℕ × ℕ) → FloorStatus
floor_in overall floor = record { floor = floor.0; status = status_of (unwrap_or floor.1 (overall, 0)).0 }

-- the whole, with the texts of the times when it was made and granted
abbrev pub shown_of : Option (List ℕ) → Option (List ℕ) → Info → RequestShown
shown_of since granted info =
    record {
      request = info.request;
      user = user_in info.beneficiary;
      by = option_map (λ w. w.user) info.requester;
      floors = map (floor_in (overall_of info).0) info.floors;
      status = status_of (overall_of info).0;
      position = (overall_of info).1;
      priority = info.priority;
      info = text_in info.info;
      reason = text_in info.reason;
      since = since;
      granted = granted;
    }

-- what is shown, but for the times when it was made and granted
abbrev pub untimed : RequestShown → RequestShown
untimed r = record r { since = None; granted = None }

-- They are shown so, in their order, whatever their times.
abbrev pub AreShown : List Info → List RequestShown → Type 0
AreShown infos shown = map untimed shown ≡ map (shown_of None None) infos
