use Rattle.floor_desk.specs.Attending.{Attends, beside}
use Rattle.floor_desk.proofs.catching_up.tell_untold.Given as goal

-- each client went on as it may
abbrev pub invariant-loop-one : goal.invariant-loop-one
invariant-loop-one l = Attends beside l.fn.callers l.callers
