use Rattle.std.proofs.Common.{subst, sym}
use Rattle.floor_loop.specs.Loop.{Loop}
use Rattle.floor_loop.specs.Written.{TookNothing}
use Rattle.floor_poll.proofs.worker.Worker.act.Goals as goal

pub returns-clause-took : goal.returns-clause-took
returns-clause-took g c = subst (λ (l : Loop). TookNothing c.args.self.now.hub l) (sym c.note_events-count.ensures.hub) c.admin-outcome.ensures.took
