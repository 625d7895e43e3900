use Rattle.std.proofs.lemmas.Result.{IfOk-weaker}
use Rattle.floor_poll.proofs.worker.Worker.members.Goals as goal

pub returns-in-Ok : goal.returns-in-Ok
returns-in-Ok g c = record { found = λ r is. IfOk-weaker c.member_lines.result _ _ (λ x p. (c.in-Ok.live.now, c.in-Ok.ensures.found r is, p)) (c.member_lines.ensures.found r is) }
