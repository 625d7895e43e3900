use Rattle.floor_desk.specs.Attending.{beside}
use Rattle.floor_desk.proofs.Attended.{attends_same, attends_then}
use Rattle.floor_desk.proofs.callers.Callers.pass_all.Goals as goal

pub loop-index-init : goal.loop-index-init
loop-index-init c = attends_same beside c.args.self.now

pub loop-index-preserved : goal.loop-index-preserved
loop-index-preserved c = attends_then beside c.args.self.now c.loop-index.self c.pass.new.self c.loop-index.invariant c.pass.ensures.attends
