use Rattle.std.proofs.Common.{◌∙◌, refl}
use Rattle.floor_desk.specs.Attending.{beside}
use Rattle.floor_desk.proofs.Attended.{attends_same, attends_then}
use Rattle.floor_service.proofs.Settled.{settled_same, settled_then}
use Rattle.floor_service.proofs.service.Service.settle_all.Goals as goal

pub loop-index-init : goal.loop-index-init
loop-index-init c = (refl, settled_same c.args.self.now.server c.args.self.now.server refl, attends_same beside c.args.self.now.desk.callers)

pub loop-index-preserved : goal.loop-index-preserved
loop-index-preserved c = (
  c.settle.ensures.meetings ∙ c.loop-index.invariant.0,
  settled_then c.args.self.now.server c.loop-index.self.server c.settle.new.self.server c.loop-index.invariant.1 c.settle.ensures.settles,
  attends_then beside c.args.self.now.desk.callers c.loop-index.self.desk.callers c.settle.new.self.desk.callers c.loop-index.invariant.2 c.settle.ensures.attends,
)
