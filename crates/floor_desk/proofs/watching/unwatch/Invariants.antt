use Rattle.floor_desk.specs.Attending.{Attends, carried}
use Rattle.floor_desk.proofs.watching.unwatch.Given as goal

-- each client went on as it may
abbrev pub invariant-loop-of : goal.invariant-loop-of
invariant-loop-of l = Attends (carried l.socket) l.fn.desk.callers l.desk.callers
