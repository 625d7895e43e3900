use Rattle.std.proofs.Common.{rules}
use Rattle.std.proofs.lemmas.Result.{on_ok_weaker}
use Rattle.floor_desk.proofs.Attended.{goes_on_one}
use Rattle.floor_desk.proofs.callers.Callers.watch_at.Goals as goal

pub returns-in-Some-place_of-clause-here : goal.returns-in-Some-place_of-clause-here
returns-in-Some-place_of-clause-here c = on_ok_weaker c.watch.result (λ w. goes_on_one _ _ _ c.in-Some-place_of.caller c.watch.new.self (search rules) (search rules) c.watch.ensures.number c.watch.ensures.task w) c.watch.ensures.client
