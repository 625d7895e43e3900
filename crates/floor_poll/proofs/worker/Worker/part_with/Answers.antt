use Rattle.std.proofs.Common.{Bool, [], subst}
use Rattle.floor_hub.specs.declared.step.Step.TheVariants.{Leave}
use Rattle.floor_hub.specs.Hub.{Hub}
use Rattle.floor_loop.specs.Done.{AtMost, Steps}
use Rattle.floor_loop.specs.Loop.{Loop}
use Rattle.floor_loop.specs.Written.{Took}
use Rattle.floor_poll.specs.Ends.{IsLetGo}
use Rattle.floor_poll.proofs.worker.Worker.part_with.Goals as goal

pub returns-in-Some : goal.returns-in-Some
returns-in-Some g c = record {
  steps = subst (λ (l : Loop). Steps (AtMost 1 (Leave c.args.number)) l.hub c.let_go.new.self.hub.hub) c.close.ensures.hub c.let_go.ensures.steps;
  others = λ k ne. subst (λ (l : Loop). Took l c.let_go.new.self.hub k [] 0) c.close.ensures.hub (c.let_go.ensures.others k ne);
  gone = subst (λ (b : Bool). IsLetGo b c.let_go.new.self.hub c.args.number) c.close.ensures.stopping c.let_go.ensures.gone;
}

pub returns-in-None : goal.returns-in-None
returns-in-None g c = record {
  steps = subst (λ (l : Loop). Steps (AtMost 1 (Leave c.args.number)) l.hub c.leave_away.new.self.hub.hub) c.close.ensures.hub c.leave_away.ensures.steps;
  others = λ k ne. subst (λ (l : Loop). Took l c.leave_away.new.self.hub k [] 0) c.close.ensures.hub (c.leave_away.ensures.took k);
  gone = subst (λ (b : Bool). IsLetGo b c.leave_away.new.self.hub c.args.number) c.close.ensures.stopping c.leave_away.ensures.gone;
}
