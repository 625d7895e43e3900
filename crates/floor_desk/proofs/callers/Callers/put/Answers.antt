use Rattle.std.proofs.lemmas.Result.{on_ok_weaker}
use Rattle.floor_desk.proofs.callers.Callers.put.Goals as goal

pub returns-clause-there : goal.returns-clause-there
returns-clause-there c = on_ok_weaker c.put_caller.result (λ e. (c.in_ok-caller.caller, e, c.in_ok-caller.ensures.value)) c.put_caller.ensures.there
