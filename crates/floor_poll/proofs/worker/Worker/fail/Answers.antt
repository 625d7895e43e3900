use Rattle.std.proofs.Common.{subst, sym}
use Rattle.floor_loop.specs.Loop.{Loop, HasFailed}
use Rattle.floor_poll.proofs.worker.Worker.fail.Goals as goal

pub returns-clause-failed : goal.returns-clause-failed
returns-clause-failed g c = subst (λ (l : Loop). HasFailed l.attended c.args.number) (sym c.note_messages.ensures.hub) c.failed.ensures.failed
