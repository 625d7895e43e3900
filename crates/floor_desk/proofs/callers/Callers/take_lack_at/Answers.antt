use Rattle.std.proofs.Common.{rules}
use Rattle.floor_desk.proofs.Attended.{goes_on_one}
use Rattle.floor_desk.proofs.callers.Callers.take_lack_at.Goals as goal

pub returns-in-Some-place-clause-here : goal.returns-in-Some-place-clause-here
returns-in-Some-place-clause-here c = goes_on_one _ _ _ c.in-Some-place.caller c.take_lack.new.self (search rules) (search rules) c.take_lack.ensures.number c.take_lack.ensures.task c.take_lack.ensures.client
