use Rattle.std.proofs.Common.{rules}
use Rattle.floor_desk.proofs.Attended.{ends_task_one}
use Rattle.floor_desk.proofs.callers.Callers.wait_at.Goals as goal

pub returns-in-Some-place-clause-here : goal.returns-in-Some-place-clause-here
returns-in-Some-place-clause-here c = ends_task_one _ _ _ _ c.in-Some-place.caller c.wait.new.self (search rules) (search rules) c.wait.ensures.number c.wait.ensures.task c.wait.ensures.client
