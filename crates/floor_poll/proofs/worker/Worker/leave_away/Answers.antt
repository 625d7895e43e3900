use Rattle.std.proofs.Common.{inl, inr, subst}
use Rattle.floor_hub.specs.declared.step.Step.TheVariants.{Leave}
use Rattle.floor_loop.specs.Loop.{Loop}
use Rattle.floor_loop.specs.Written.{TookNothing}
use Rattle.floor_poll.proofs.Nothing.{steps-none, took-nothing}
use Rattle.floor_poll.proofs.worker.Worker.leave_away.Goals as goal

pub returns-then-stays : goal.returns-then-stays
returns-then-stays g c = record {
  steps = steps-none (Leave c.args.number) c.args.self.now.hub.hub;
  took = took-nothing c.args.self.now.hub;
  gone = inr (inr (c.stays.ensures.stops c.if-stays.true));
}

pub returns-in-Some-clause-took : goal.returns-in-Some-clause-took
returns-in-Some-clause-took g c = subst (λ (l : Loop). TookNothing l c.leave-gone.new.self) c.count_cut.ensures.hub c.leave-gone.ensures.took

pub returns-in-None-clause-took : goal.returns-in-None-clause-took
returns-in-None-clause-took g c = subst (λ (l : Loop). TookNothing l c.leave-gone.new.self) c.count_cut.ensures.hub c.leave-gone.ensures.took
