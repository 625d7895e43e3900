use Rattle.floor_hub.specs.Gathers.{Gathers}
use Rattle.std.proofs.Common.{◌≡◌, ap, refl, subst, ◌∙◌}
use Rattle.std.specs.Prelude.{IsSome}
use Rattle.floor_loop.specs.Done.{NoSteps, Steps}
use Rattle.floor_loop.specs.Loop.{Attended, Loop, outgoing_at, ready_at}
use Rattle.floor_loop.specs.Written.{Spares, TookNothing}
use Rattle.floor_loop.specs.steps.Changed.{changed, given}
use Rattle.floor_loop.specs.steps.Moved.{Moved, loop_of}
use Rattle.floor_loop.proofs.Moving.{fewer, loop-moves, moved-before, moved-same, own-same}
use Rattle.floor_loop.proofs.Sparing.{ends-changed, spares-same}
use Rattle.floor_loop.proofs.Watching.{gathers-refl}
use Rattle.floor_loop.proofs.Writing.{changed-beside, given-ready, keeps-given, live-changed, ready-some-at}
use Rattle.floor_loop.proofs.serving.Loop.ready.Goals as goal

abbrev old : goal.After-fill → Loop
old c = loop_of c.self.inside.hub c.self.inside.attended

abbrev mid : goal.After-fill → Loop
mid c = loop_of c.self.inside.hub c.next_ready.new.self

abbrev new : goal.After-fill → Loop
new c = loop_of c.fill.new.hub c.fill.new.attended

given-to : (c : goal.After-fill) → c.next_ready.new.self.outgoing ≡ changed given c.in-Some.number c.self.inside.attended.outgoing
given-to c = ap (λ (z : Attended). z.outgoing) c.in-Some.ensures.next

moved : (c : goal.After-fill) → Moved NoSteps (old c) (new c)
moved c =
    moved-before NoSteps (old c) (mid c) (new c)
    (moved-same (old c) (mid c) refl (live-changed given c.in-Some.number c.self.inside.attended c.next_ready.new.self (given-to c) c.self.inside.hub keeps-given)
    (own-same (old c) (mid c) refl (fewer c.self.inside.attended c.next_ready.new.self (ap (λ (z : Attended). z.away) c.in-Some.ensures.next)))) c.fill.ensures.moved

pub invariant_of-self : goal.invariant_of-self
invariant_of-self c = loop-moves NoSteps (old c) (new c) (moved c) c.self.invariant

pub returns-in-Some : goal.returns-in-Some
returns-in-Some c =
    let a = c.self.inside.attended in
    let b = c.next_ready.new.self in
    let f = c.in-Some.ensures.found in
    record {
      steps = subst (λ (l : Loop). Steps NoSteps l.hub (new c).hub) c.self.view_is (moved c).steps;
      took = subst (λ (l : Loop). TookNothing l (new c)) c.self.view_is ((moved c).took c.self.invariant);
      found = subst (λ (l : Loop). IsSome (ready_at l c.in-Some.number)) c.self.view_is (ready-some-at a c.in-Some.number f.0 f.1 f.2);
      none = tt;
      given = c.fill.ensures.ready c.in-Some.number ∙ given-ready a b c.in-Some.number (given-to c);
      filled = c.fill.ensures.filled;
      others = λ k ne. c.fill.ensures.others k ne ∙ changed-beside given c.in-Some.number a b (given-to c) k ne ∙ ap (λ (l : Loop). outgoing_at l k) c.self.view_is;
      spares = subst (λ (l : Loop). Spares l (new c)) c.self.view_is (spares-same (old c) (new c) (λ k. c.fill.ensures.ends k ∙ ends-changed given c.in-Some.number a b (given-to c) (λ o. refl) k));
      gathered = subst (λ (l : Loop). Gathers l.hub (new c).hub) c.self.view_is (moved c).gathered;
    }

pub returns-in-None-clause-gathered : goal.returns-in-None-clause-gathered
returns-in-None-clause-gathered c = subst (λ (l : Loop). Gathers l.hub c.self.inside.hub) c.self.view_is (gathers-refl c.self.inside.hub)
