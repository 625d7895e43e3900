use Rattle.std.proofs.Common.{◌≡◌, map, take}
use Rattle.floor_message.specs.Written.{number}
use Rattle.floor_message.specs.steps.Writing.{with_attrs}
use Rattle.floor_message.proofs.format.floors.put_floors.Given as goal

abbrev pub invariant-loop-floor : goal.invariant-loop-floor
invariant-loop-floor l = l.out ≡ with_attrs l.initial.out (map (number 2) (take l.floor-index l.floors))
