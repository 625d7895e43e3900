use Rattle.std.proofs.Common.{◌≡◌, take, map}
use Rattle.floor_queue.specs.steps.Lines.{empty_line}
use Rattle.floor_queue.proofs.index.lines.Lines.new.Given as goal

abbrev pub invariant-loop-floor : goal.invariant-loop-floor
invariant-loop-floor l = l.lines.items ≡ map empty_line (take l.floor-index l.floors)
