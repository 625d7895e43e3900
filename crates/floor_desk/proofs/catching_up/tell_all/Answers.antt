use Rattle.floor_desk.specs.Attending.{beside}
use Rattle.floor_desk.proofs.Attended.{attends_same, attends_then}
use Rattle.floor_desk.proofs.catching_up.tell_all.Goals as goal

pub loop-index-init : goal.loop-index-init
loop-index-init c = attends_same beside c.args.desk.now.callers

pub loop-index-preserved : goal.loop-index-preserved
loop-index-preserved c = attends_then beside c.args.desk.now.callers c.loop-index.desk.callers c.tell_all_to.new.desk.callers c.loop-index.invariant c.tell_all_to.ensures.attends
