use Rattle.std.proofs.Common.{rules}
use Rattle.floor_desk.proofs.Attended.{ends_task_one}
use Rattle.floor_desk.proofs.callers.Callers.take_task_at.Goals as goal

pub returns-in-Some-place-clause-here : goal.returns-in-Some-place-clause-here
returns-in-Some-place-clause-here c = ends_task_one _ _ _ _ c.in-Some-place.caller c.take_task.new.self (search rules) (search rules) c.take_task.ensures.number c.take_task.ensures.task c.take_task.ensures.client
