use Rattle.floor_desk.proofs.Attended.{stays_beside}
use Rattle.floor_desk.proofs.callers.Callers.take_lack.Goals as goal

pub returns-clause-attends : goal.returns-clause-attends
returns-clause-attends c = stays_beside c.args.slot c.args.self.now c.take_lack_at.new.self c.take_lack_at.ensures.here c.take_lack_at.ensures.others
