use Rattle.floor_hub.specs.Gathers.{Gathers}
use Rattle.std.proofs.Common.{ap, subst}
use Rattle.floor_hub.specs.declared.step.Step.TheVariants.{Open}
use Rattle.floor_hub.specs.declared.refusal.HubRefusal.{HubRefusal}
use Rattle.floor_hub.specs.declared.step.Answer.TheVariants.{Done}
use Rattle.floor_hub.specs.Calls.{FailsSame, Turns}
use Rattle.floor_hub.specs.Rooms.{Opens, SameHub}
use Rattle.floor_hub.specs.StandsFor.{StandsFor}
use Rattle.floor_hub.specs.World.{World}
use Rattle.std.specs.Prelude.{Err, IfErr, MatchResult, Ok, OnErr, OnOk, Result}
use Rattle.floor_loop.specs.Done.{AtMost, Steps}
use Rattle.floor_loop.specs.Loop.{Loop, outgoing_in}
use Rattle.floor_loop.specs.Written.{TookNothing}
use Rattle.floor_loop.specs.steps.Moved.{Moved, loop_of}
use Rattle.floor_loop.proofs.Calls.{moved-open}
use Rattle.floor_loop.proofs.Moving.{loop-moves}
use Rattle.floor_loop.proofs.Stepping.{keeps-refl}
use Rattle.floor_loop.proofs.serving.Loop.open.Goals as goal

abbrev old : goal.After-open → Loop
old c = loop_of c.self.inside.hub c.self.inside.attended

abbrev new : goal.After-open → Loop
new c = loop_of c.open.new.self c.self.inside.attended

moved : (c : goal.After-open) → Moved (AtMost 1 (Open c.args.config)) (old c) (new c)
moved c = moved-open c.args.config (old c) (new c) c.open.result c.open.ensures.next c.open.ensures.took c.open.ensures.connections c.open.ensures.left c.open.ensures.gathered (keeps-refl (outgoing_in c.self.inside.attended)) (λ k s is. is)

pub invariant_of-self : goal.invariant_of-self
invariant_of-self c = loop-moves (AtMost 1 (Open c.args.config)) (old c) (new c) (moved c) c.self.invariant

pub returns-clause-steps : goal.returns-clause-steps
returns-clause-steps c = subst (λ (l : Loop). Steps (AtMost 1 (Open c.args.config)) l.hub (new c).hub) c.self.view_is (moved c).steps

pub returns-clause-gathered : goal.returns-clause-gathered
returns-clause-gathered c = subst (λ (l : Loop). Gathers l.hub (new c).hub) c.self.view_is (moved c).gathered

pub returns-clause-took : goal.returns-clause-took
returns-clause-took c = subst (λ (l : Loop). TookNothing l (new c)) c.self.view_is ((moved c).took c.self.invariant)

pub returns-clause-attended : goal.returns-clause-attended
returns-clause-attended c = ap (λ (l : Loop). l.attended) c.self.view_is

pub returns-clause-opened : goal.returns-clause-opened
returns-clause-opened c = subst (λ (l : Loop). OnOk c.open.result (Opens c.args.config l.hub (new c).hub)) c.self.view_is c.open.ensures.took

if-err : {T : Type 0} (P : T → Type 0) (Q : HubRefusal → Type 0) (res : Result T HubRefusal) → MatchResult res P Q → IfErr res Q
if-err P Q (Ok v) m = tt
if-err P Q (Err r) m = m

pub returns-clause-refused : goal.returns-clause-refused
returns-clause-refused c =
    subst (λ (l : Loop). (w : World) → StandsFor l.hub w → IfErr c.open.result (FailsSame (new c).hub w (Open c.args.config))) c.self.view_is
    (λ w st. if-err (λ _. Turns (new c).hub w (Open c.args.config) Done) (FailsSame (new c).hub w (Open c.args.config)) c.open.result (c.open.ensures.next w st))

pub returns-clause-left : goal.returns-clause-left
returns-clause-left c = subst (λ (l : Loop). OnErr c.open.result (SameHub l.hub (new c).hub)) c.self.view_is c.open.ensures.left
