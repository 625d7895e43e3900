use Rattle.floor_desk.specs.Attending.{beside}
use Rattle.floor_desk.proofs.Attended.{attends_same}
use Rattle.floor_desk.proofs.callers.Callers.close_where_watching.Goals as goal

pub returns-else-is_watching : goal.returns-else-is_watching
returns-else-is_watching c = record { attends = attends_same beside c.args.self.now }
