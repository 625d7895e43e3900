use Rattle.std.proofs.Common.{◌≡◌, ◌++◌, map, take}
use Rattle.floor_machine.specs.steps.Marks.{mark_of}
use Rattle.floor_machine.proofs.marks.mark_all.Given as goal

abbrev pub invariant-loop-request : goal.invariant-loop-request
invariant-loop-request l = l.marks.items ≡ l.fn.marks.items ++ map mark_of (take l.request-index l.requests)
