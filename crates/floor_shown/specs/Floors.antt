-- What floor requests are to a floor, by how they are shown.
use Rattle.std.specs.Prelude.{◌==◌, ◌&&◌, ℕ, Bool, false, not, is_some, List, Option, Some, None, filter, find, map, option_map, unwrap_or}
use Rattle.floor_message.specs.declared.information.Info.{Info}
use Rattle.floor_shown.specs.Requests.{is_granted_at}

-- how a floor request stands with a floor, where it is for it
abbrev pub status_in : ℕ → Info → Option (Option (ℕ × ℕ))
status_in floor info = option_map (λ f. f.1) (find (λ f. f.0 == floor) info.floors)

-- the queue position; 0 where there is none
abbrev pub position_of : Option (Option (ℕ × ℕ)) → ℕ
position_of None = 0
position_of (Some None) = 0
position_of (Some (Some s)) = s.1

-- it holds the floor; it waits for it, at a queue position; its chair hasn't decided of it
abbrev pub holds : ℕ → Info → Bool
holds floor info = is_granted_at (unwrap_or (status_in floor info) None)

abbrev pub waits : ℕ → Info → Bool
waits floor info = not (holds floor info) && not (position_of (status_in floor info) == 0)

abbrev pub pends : ℕ → Info → Bool
pends floor info = is_some (status_in floor info) && not (holds floor info) && not (waits floor info)

-- the numbers of those that hold it, and of those that pend, in the order in which they are shown
abbrev pub holders : ℕ → List Info → List ℕ
holders floor shown = map (λ info. info.request) (filter (holds floor) shown)

abbrev pub pending : ℕ → List Info → List ℕ
pending floor shown = map (λ info. info.request) (filter (pends floor) shown)

-- those that wait, each behind its queue position
abbrev pub place_of : ℕ → Info → ℕ × ℕ
place_of floor info = (position_of (status_in floor info), info.request)

abbrev pub places : ℕ → List Info → List (ℕ × ℕ)
places floor shown = map (place_of floor) (filter (waits floor) shown)
