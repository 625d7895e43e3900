use Rattle.std.proofs.Common.{◌∙◌, refl}
use Rattle.floor_desk.specs.Attending.{beside}
use Rattle.floor_desk.proofs.Attended.{attends_same, attends_then}
use Rattle.floor_service.proofs.service.Service.figures.Goals as goal

pub loop-index-init : goal.loop-index-init
loop-index-init c = (refl, attends_same beside c.args.self.now.desk.callers)

pub loop-index-preserved : goal.loop-index-preserved
loop-index-preserved c = (
  c.tell_figures.ensures.meetings ∙ c.loop-index.invariant.0,
  attends_then beside c.args.self.now.desk.callers c.loop-index.self.desk.callers c.tell_figures.new.self.desk.callers c.loop-index.invariant.1 c.tell_figures.ensures.attends,
)
