use Rattle.floor_desk.proofs.Attended.{passed_beside}
use Rattle.floor_desk.proofs.callers.Callers.pass.Goals as goal

pub returns-clause-attends : goal.returns-clause-attends
returns-clause-attends c = passed_beside c.args.told c.args.slot c.args.self.now c.pass_at.new.self c.pass_at.ensures.here c.pass_at.ensures.others
