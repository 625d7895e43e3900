use Rattle.std.proofs.Common.{rules}
use Rattle.floor_desk.proofs.Attended.{goes_on_one}
use Rattle.floor_desk.proofs.callers.Callers.watch_all_at.Goals as goal

pub returns-in-Some-place-clause-here : goal.returns-in-Some-place-clause-here
returns-in-Some-place-clause-here c = goes_on_one _ _ _ c.in-Some-place.caller c.watch_all.new.self (search rules) (search rules) c.watch_all.ensures.number c.watch_all.ensures.task c.watch_all.ensures.client
