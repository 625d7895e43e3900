use Rattle.std.proofs.Common.{rules}
use Rattle.floor_desk.proofs.Attended.{goes_on_one}
use Rattle.floor_desk.proofs.callers.Callers.next.Goals as goal

pub returns-in-Some-place-clause-here : goal.returns-in-Some-place-clause-here
returns-in-Some-place-clause-here c = goes_on_one _ _ _ c.in-Some-place.caller c.next.new.self (search rules) (search rules) c.next.ensures.number c.next.ensures.task c.next.ensures.client
