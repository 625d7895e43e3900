use Rattle.std.proofs.Common.{◌≡◌, take}
use Rattle.std.specs.List.{flat_map}
use Rattle.floor_machine.proofs.affected.marked_floors.Given as goal

abbrev pub invariant-loop-mark : goal.invariant-loop-mark
invariant-loop-mark l = l.floors.items ≡ flat_map (λ m. m.floors) (take l.mark-index l.marks)
