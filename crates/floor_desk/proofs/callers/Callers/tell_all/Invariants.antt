use Rattle.floor_desk.specs.Attending.{Attends, beside}
use Rattle.floor_desk.proofs.callers.Callers.tell_all.Given as goal

-- each client went on as it may
abbrev pub invariant-loop-index : goal.invariant-loop-index
invariant-loop-index l = Attends beside l.fn.self l.self
