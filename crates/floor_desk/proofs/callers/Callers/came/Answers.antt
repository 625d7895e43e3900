use Rattle.std.proofs.Common.{rules}
use Rattle.floor_desk.proofs.Attended.{goes_on_one}
use Rattle.floor_desk.proofs.callers.Callers.came.Goals as goal

pub returns-in-Some-place-clause-here : goal.returns-in-Some-place-clause-here
returns-in-Some-place-clause-here c = goes_on_one _ _ _ c.in-Some-place.caller c.came.new.self (search rules) (search rules) c.came.ensures.number c.came.ensures.task c.came.ensures.client
