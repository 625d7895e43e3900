use Rattle.floor_desk.proofs.Attended.{stays_beside}
use Rattle.floor_desk.proofs.callers.Callers.add_lack.Goals as goal

pub returns-clause-attends : goal.returns-clause-attends
returns-clause-attends c = stays_beside c.args.slot c.args.self.now c.add_lack_at.new.self c.add_lack_at.ensures.here c.add_lack_at.ensures.others
