use Rattle.floor_hub.specs.Gathers.{Gathers}
use Rattle.std.proofs.Common.{◌≡◌, ℕ, [], Some, false, ap, refl, subst}
use Rattle.std.specs.Prelude.{nat_eq}
use Rattle.floor_hub.specs.declared.connection.Connection.{Connection}
use Rattle.floor_hub.specs.Connections.{connection_at}
use Rattle.floor_loop.specs.Done.{AnySteps, NoSteps, Steps}
use Rattle.floor_loop.specs.Loop.{Attended, Loop}
use Rattle.floor_loop.specs.Written.{Took}
use Rattle.floor_loop.specs.steps.Carried.{Carries}
use Rattle.floor_loop.specs.steps.Moved.{loop_of}
use Rattle.floor_loop.proofs.Calls.{moved-kept}
use Rattle.floor_loop.proofs.Carrying.{carries-both, carries-moved}
use Rattle.floor_loop.proofs.Stepping.{keeps-passed}
use Rattle.floor_loop.proofs.Moving.{fewer}
use Rattle.floor_loop.proofs.serving.Loop.resume.Goals as goal

abbrev old : goal.After-resume → Loop
old c = loop_of c.self.inside.hub c.self.inside.attended

abbrev mid : goal.After-resume → Loop
mid c = loop_of c.self.inside.hub c.pass.new.self

abbrev new : goal.After-resume → Loop
new c = loop_of c.resume.new.hub c.resume.new.attended

first : (c : goal.After-resume) → Carries c.args.config.conference (old c) (mid c)
first c =
    carries-moved c.args.config.conference NoSteps (old c) (mid c) (moved-kept (old c) (mid c) refl (keeps-passed c.self.inside.attended c.pass.new.self (ap (λ (z : Attended). z.outgoing) c.pass.ensures.next)) (fewer c.self.inside.attended c.pass.new.self (ap (λ (z : Attended). z.away) c.pass.ensures.next)))

carries : (c : goal.After-resume) → Carries c.args.config.conference (old c) (new c)
carries c = carries-both c.args.config.conference (old c) (mid c) (new c) (first c) c.resume.ensures.carries

pub invariant_of-self : goal.invariant_of-self
invariant_of-self c = (carries c).loop c.self.invariant

pub returns : goal.returns
returns c = record {
  steps = subst (λ (l : Loop). Steps AnySteps l.hub (new c).hub) c.self.view_is (carries c).steps;
  own = ((carries c).loop c.self.invariant).own;
  took = c.resume.ensures.resumed ((first c).loop c.self.invariant);
  others = subst (λ (l : Loop). (k : ℕ) (y : Connection) → connection_at (new c).hub.connections k ≡ Some y → nat_eq c.args.config.conference y.conference ≡ false → Took l (new c) k [] 0) c.self.view_is
      (λ k y is ne. ((carries c).others c.self.invariant k y is ne).took);
  gathered = subst (λ (l : Loop). Gathers l.hub (new c).hub) c.self.view_is (carries c).gathered;
}
