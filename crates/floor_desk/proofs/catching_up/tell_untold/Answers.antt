use Rattle.floor_desk.specs.Attending.{beside}
use Rattle.floor_desk.proofs.Attended.{attends_same, attends_then}
use Rattle.floor_desk.proofs.catching_up.tell_untold.Goals as goal

pub loop-one-init : goal.loop-one-init
loop-one-init c = attends_same beside c.args.callers.now

pub loop-one-preserved : goal.loop-one-preserved
loop-one-preserved c = attends_then beside c.args.callers.now c.loop-one.callers c.tell_where.new.callers c.loop-one.invariant c.tell_where.ensures.attends
