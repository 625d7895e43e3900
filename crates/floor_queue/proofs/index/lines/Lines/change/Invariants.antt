use Rattle.std.proofs.Common.{◌≡◌, ◌++◌, take, drop, map}
use Rattle.floor_queue.specs.steps.Lines.{moved}
use Rattle.floor_queue.proofs.index.lines.Lines.change.Given as goal

abbrev pub invariant-loop-line : goal.invariant-loop-line
invariant-loop-line l = l.line-items ≡ map (moved l.request l.old l.new) (take l.line-index l.fn.self) ++ drop l.line-index l.fn.self
