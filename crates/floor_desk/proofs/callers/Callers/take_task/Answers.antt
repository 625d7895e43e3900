use Rattle.floor_desk.proofs.Attended.{waits_beside}
use Rattle.floor_desk.specs.declared.caller.Task.TheVariants as task
use Rattle.floor_desk.proofs.callers.Callers.take_task.Goals as goal

pub returns-clause-attends : goal.returns-clause-attends
returns-clause-attends c = waits_beside task.Nothing c.args.slot c.args.self.now c.take_task_at.new.self c.take_task_at.ensures.here c.take_task_at.ensures.others
