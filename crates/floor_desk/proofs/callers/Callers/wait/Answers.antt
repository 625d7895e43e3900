use Rattle.floor_desk.proofs.Attended.{waits_beside}
use Rattle.floor_desk.proofs.callers.Callers.wait.Goals as goal

pub returns-clause-attends : goal.returns-clause-attends
returns-clause-attends c = waits_beside c.args.task c.args.slot c.args.self.now c.wait_at.new.self c.wait_at.ensures.here c.wait_at.ensures.others
