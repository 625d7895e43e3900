use Rattle.floor_desk.proofs.Attended.{closed_beside}
use Rattle.floor_desk.proofs.callers.Callers.close.Goals as goal

pub returns-clause-attends : goal.returns-clause-attends
returns-clause-attends c = closed_beside c.args.reason c.args.slot c.args.self.now c.close_at.new.self c.close_at.ensures.here c.close_at.ensures.others
