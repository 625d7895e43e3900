use Rattle.floor_desk.proofs.Attended.{watched_all_carried}
use Rattle.floor_desk.proofs.callers.Callers.watch_all.Goals as goal

pub returns-clause-attends : goal.returns-clause-attends
returns-clause-attends c = watched_all_carried c.args.all c.args.slot c.args.self.now c.watch_all_at.new.self c.watch_all_at.ensures.here c.watch_all_at.ensures.others
