use Rattle.std.proofs.Common.{◌≡◌, Bool, true, false, [], inl, inr, subst, sym}
use Rattle.floor_hub.specs.declared.step.Step.TheVariants.{Leave}
use Rattle.floor_loop.specs.Loop.{Loop}
use Rattle.floor_loop.specs.Written.{Took}
use Rattle.floor_poll.proofs.Nothing.{steps-none, took-nothing}
use Rattle.floor_poll.proofs.worker.Worker.let_go.Goals as goal

contrary : (b : Bool) → b ≡ true → b ≡ false → ⊥
contrary b is is_not = cc

pub returns-then-stays : goal.returns-then-stays
returns-then-stays g c = record {
  steps = steps-none (Leave c.args.number) c.args.self.now.hub.hub;
  others = λ k ne. took-nothing c.args.self.now.hub k;
  gone = inr (inr (c.stays.ensures.stops c.if-stays.true));
  back = λ h goes_on. absurd (contrary c.args.self.now.is_stopping (c.stays.ensures.stops c.if-stays.true) goes_on);
}

pub returns-then-not-is_lost-clause-others : goal.returns-then-not-is_lost-clause-others
returns-then-not-is_lost-clause-others g c = λ k ne. c.leave-left.ensures.took k

pub returns-in-Ok-true-clause-others : goal.returns-in-Ok-true-clause-others
returns-in-Ok-true-clause-others g c = λ k ne. subst (λ (l : Loop). Took c.args.self.now.hub l k [] 0) (sym c.note_away.ensures.hub) (c.lost.ensures.others k ne)
