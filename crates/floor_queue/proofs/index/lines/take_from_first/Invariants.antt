use Rattle.std.proofs.Common.{◌≡◌, ◌++◌, take, drop, map}
use Rattle.floor_queue.specs.steps.Lines.{taken}
use Rattle.floor_queue.proofs.index.lines.take_from_first.Given as goal

abbrev pub invariant-loop-index : goal.invariant-loop-index
invariant-loop-index l = l.lines.items ≡ map (taken l.request l.rank) (take l.index l.fn.lines.items) ++ drop l.index l.fn.lines.items
