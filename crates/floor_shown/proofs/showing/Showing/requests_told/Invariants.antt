use Rattle.std.proofs.Common.{◌≡◌, None, map, take}
use Rattle.floor_shown.specs.Requests.{shown_of, untimed}
use Rattle.floor_shown.proofs.showing.Showing.requests_told.Given as goal

-- those so far are shown so
abbrev pub invariant-loop-info : goal.invariant-loop-info
invariant-loop-info l = map untimed l.told.items ≡ map (shown_of None None) (take l.info-index l.changed)
