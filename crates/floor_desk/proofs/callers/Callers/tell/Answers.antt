use Rattle.floor_desk.proofs.Attended.{told_beside}
use Rattle.floor_desk.proofs.callers.Callers.tell.Goals as goal

pub returns-clause-attends : goal.returns-clause-attends
returns-clause-attends c = told_beside c.args.told.now c.args.slot c.args.self.now c.tell_at.new.self c.tell_at.ensures.here c.tell_at.ensures.others
