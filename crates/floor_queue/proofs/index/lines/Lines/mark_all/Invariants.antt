use Rattle.std.proofs.Common.{◌≡◌, ◌++◌, take, drop, map}
use Rattle.floor_queue.specs.steps.Lines.{with_mark}
use Rattle.floor_queue.proofs.index.lines.Lines.mark_all.Given as goal

abbrev pub invariant-loop-line : goal.invariant-loop-line
invariant-loop-line l = l.line-items ≡ map with_mark (take l.line-index l.fn.self) ++ drop l.line-index l.fn.self
