use Rattle.std.proofs.Common.{◌≡◌, map, take}
use Rattle.floor_message.specs.Written.{floor_attr}
use Rattle.floor_message.specs.steps.Writing.{with_attrs}
use Rattle.floor_message.proofs.format.floor_request_status.put_floor_statuses.Given as goal

abbrev pub invariant-loop-floor : goal.invariant-loop-floor
invariant-loop-floor l = l.out ≡ with_attrs l.initial.out (map floor_attr (take l.floor-index l.floors))
