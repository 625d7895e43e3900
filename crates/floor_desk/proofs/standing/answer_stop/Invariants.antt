use Rattle.floor_desk.specs.Attending.{Attends, beside}
use Rattle.floor_desk.proofs.standing.answer_stop.Given as goal

-- each client went on as it may
abbrev pub invariant-loop-index : goal.invariant-loop-index
invariant-loop-index l = Attends beside l.fn.desk.callers l.desk.callers
