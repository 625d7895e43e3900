use Rattle.std.proofs.Common.{sym, subst}
use Rattle.floor_loop.specs.Loop.{Loop, IsEnded}
use Rattle.floor_poll.proofs.worker.Worker.hear_out.Goals as goal

pub returns-clause-ended : goal.returns-clause-ended
returns-clause-ended g c = subst (λ (h : Loop). IsEnded h.attended c.args.number) (sym c.note_messages.ensures.hub) c.ended.ensures.ended
