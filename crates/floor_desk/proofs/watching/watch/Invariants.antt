use Rattle.floor_desk.specs.Attending.{Attends, carried}
use Rattle.floor_desk.proofs.watching.watch.Given as goal

-- each client went on as it may
abbrev pub invariant-loop-one : goal.invariant-loop-one
invariant-loop-one l = Attends (carried l.socket) l.fn.desk.callers l.desk.callers
