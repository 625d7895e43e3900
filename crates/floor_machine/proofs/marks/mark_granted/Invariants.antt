use Rattle.std.proofs.Common.{◌≡◌, ◌++◌, take}
use Rattle.std.specs.List.{flat_map}
use Rattle.floor_machine.specs.steps.Marks.{marks_waiting}
use Rattle.floor_machine.proofs.marks.mark_granted.Given as goal

abbrev pub invariant-loop-number : goal.invariant-loop-number
invariant-loop-number l = l.marks.items ≡ l.fn.marks.items ++ flat_map (marks_waiting l.requests.ongoing) (take l.number-index l.numbers)
