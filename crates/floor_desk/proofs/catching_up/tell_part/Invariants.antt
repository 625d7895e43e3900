use Rattle.floor_desk.specs.Attending.{Attends, beside}
use Rattle.floor_desk.proofs.catching_up.tell_part.Given as goal

-- each client went on as it may
abbrev pub invariant-loop-event : goal.invariant-loop-event
invariant-loop-event l = Attends beside l.fn.callers l.callers
