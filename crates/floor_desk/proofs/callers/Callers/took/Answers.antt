use Rattle.std.proofs.Common.{rules}
use Rattle.floor_desk.proofs.Attended.{goes_on_one}
use Rattle.floor_desk.proofs.callers.Callers.took.Goals as goal

pub returns-in-Some-place-clause-here : goal.returns-in-Some-place-clause-here
returns-in-Some-place-clause-here c = goes_on_one _ _ _ c.in-Some-place.caller c.took.new.self (search rules) (search rules) c.took.ensures.number c.took.ensures.task c.took.ensures.client
