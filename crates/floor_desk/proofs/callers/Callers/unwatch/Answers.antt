use Rattle.floor_desk.proofs.Attended.{unwatched_beside}
use Rattle.floor_desk.proofs.callers.Callers.unwatch.Goals as goal

pub returns-clause-attends : goal.returns-clause-attends
returns-clause-attends c = unwatched_beside c.args.conference c.args.slot c.args.self.now c.unwatch_at.new.self c.unwatch_at.ensures.here c.unwatch_at.ensures.others
