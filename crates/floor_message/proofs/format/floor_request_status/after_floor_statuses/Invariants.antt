use Rattle.std.proofs.Common.{map, take, Some}
use Rattle.floor_message.specs.steps.Leaves.{Leaves}
use Rattle.floor_message.specs.Written.{floor_attr}
use Rattle.floor_message.proofs.format.floor_request_status.after_floor_statuses.Given as goal

abbrev pub invariant-loop-floor : goal.invariant-loop-floor
invariant-loop-floor l = Leaves (map floor_attr (take l.floor-index l.floors)) l.initial.left (Some l.left)
