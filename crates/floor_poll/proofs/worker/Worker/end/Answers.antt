use Rattle.std.proofs.Common.{[], subst, sym}
use Rattle.floor_loop.specs.Loop.{Loop}
use Rattle.floor_loop.specs.Written.{Took}
use Rattle.floor_poll.specs.Ends.{IsLetGo}
use Rattle.floor_poll.proofs.worker.Worker.end.Goals as goal

pub returns-clause-others : goal.returns-clause-others
returns-clause-others g c = λ k ne. subst (λ (l : Loop). Took c.args.self.now.hub l k [] 0) (sym c.note_events-count.ensures.hub) (c.part_with.ensures.others k ne)

pub returns-clause-gone : goal.returns-clause-gone
returns-clause-gone g c = subst (λ (l : Loop). IsLetGo c.args.self.now.is_stopping l c.args.number) (sym c.note_events-count.ensures.hub) c.part_with.ensures.gone
