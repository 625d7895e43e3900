use Rattle.floor_desk.proofs.Attended.{watch_carried}
use Rattle.floor_desk.proofs.callers.Callers.watch.Goals as goal

pub returns-clause-attends : goal.returns-clause-attends
returns-clause-attends c = watch_carried c.args.conference c.args.place c.args.slot c.args.self.now c.watch_at.new.self c.watch_at.result c.watch_at.ensures.here c.watch_at.ensures.left c.watch_at.ensures.others
