use Rattle.floor_hub.specs.Gathers.{Gathers}
use Rattle.std.proofs.Common.{ap, refl, subst}
use Rattle.floor_hub.specs.declared.step.Step.TheVariants.{Serve}
use Rattle.floor_loop.specs.Done.{AtMost, Each, NoSteps, Steps}
use Rattle.floor_loop.specs.Loop.{Attended, Loop, outgoing_in}
use Rattle.floor_loop.specs.Written.{IsSparedOrOver, TookNothing, Wakes}
use Rattle.floor_loop.specs.steps.Moved.{IsLoop, KeepsAll, Moved, loop_of}
use Rattle.floor_loop.proofs.Calls.{moved-kept}
use Rattle.floor_loop.proofs.Moving.{each-of, fewer, loop-moves, moved-before, moved-behind, moved-of}
use Rattle.floor_loop.proofs.Sparing.{passed-found, spared-behind, spared-last}
use Rattle.floor_loop.proofs.Stepping.{keeps-passed, stays-kept, wakes-both, wakes-same}
use Rattle.floor_loop.proofs.serving.Loop.failed.Goals as goal

abbrev old : goal.After-fail → Loop
old c = loop_of c.self.inside.hub c.self.inside.attended

abbrev mid : goal.After-fail → Loop
mid c = loop_of c.self.inside.hub c.pass.new.self

abbrev served : goal.After-fail → Loop
served c = loop_of c.serve_turn-served.new.hub c.serve_turn-served.new.attended

abbrev new : goal.After-fail → Loop
new c = loop_of c.serve_turn-served.new.hub c.fail.new.attended

keeps : (c : goal.After-fail) → KeepsAll (outgoing_in c.self.inside.attended) (outgoing_in c.pass.new.self)
keeps c = keeps-passed c.self.inside.attended c.pass.new.self (ap (λ (z : Attended). z.outgoing) c.pass.ensures.next)

first : (c : goal.After-fail) → Moved NoSteps (old c) (mid c)
first c = moved-kept (old c) (mid c) refl (keeps c) (fewer c.self.inside.attended c.pass.new.self (ap (λ (z : Attended). z.away) c.pass.ensures.next))

last : (c : goal.After-fail) → Moved NoSteps (served c) (new c)
last c = moved-kept (served c) (new c) refl c.fail.ensures.kept (fewer c.serve_turn-served.new.attended c.fail.new.attended c.fail.ensures.away)

turn : (c : goal.After-fail) → Moved (Each (Serve c.args.number)) (mid c) (served c)
turn c = moved-of (AtMost 4294967295 (Serve c.args.number)) (Each (Serve c.args.number)) (mid c) (served c) (each-of 4294967295 (Serve c.args.number)) c.serve_turn-served.ensures.moved

behind : (c : goal.After-fail) → Moved (Each (Serve c.args.number)) (mid c) (new c)
behind c = moved-before (Each (Serve c.args.number)) (mid c) (served c) (new c) (turn c) (last c)

moved : (c : goal.After-fail) → Moved (Each (Serve c.args.number)) (old c) (new c)
moved c = moved-behind (Each (Serve c.args.number)) (old c) (mid c) (new c) (first c) (behind c)

later : (c : goal.After-fail) → IsLoop (mid c)
later c = loop-moves NoSteps (old c) (mid c) (first c) c.self.invariant

after : (c : goal.After-fail) → IsLoop (served c)
after c = loop-moves (Each (Serve c.args.number)) (mid c) (served c) (turn c) (later c)

woke : (c : goal.After-fail) → Wakes (old c) (new c)
woke c =
    wakes-both NoSteps (Each (Serve c.args.number)) (old c) (mid c) (new c) (first c) (behind c) (later c).serving
    (wakes-same (old c) (mid c) (λ d. refl) (stays-kept (outgoing_in c.self.inside.attended) (outgoing_in c.pass.new.self) (keeps c)))
    (wakes-both (Each (Serve c.args.number)) NoSteps (mid c) (served c) (new c) (turn c) (last c) (after c).serving (c.serve_turn-served.ensures.woke (later c))
    (wakes-same (served c) (new c) (λ d. refl) (stays-kept (outgoing_in c.serve_turn-served.new.attended) (outgoing_in c.fail.new.attended) c.fail.ensures.kept)))

pub invariant_of-self : goal.invariant_of-self
invariant_of-self c = loop-moves (Each (Serve c.args.number)) (old c) (new c) (moved c) c.self.invariant

pub returns-clause-steps : goal.returns-clause-steps
returns-clause-steps c = subst (λ (l : Loop). Steps (Each (Serve c.args.number)) l.hub (new c).hub) c.self.view_is (moved c).steps

pub returns-clause-gathered : goal.returns-clause-gathered
returns-clause-gathered c = subst (λ (l : Loop). Gathers l.hub (new c).hub) c.self.view_is (moved c).gathered

pub returns-clause-took : goal.returns-clause-took
returns-clause-took c = subst (λ (l : Loop). TookNothing l (new c)) c.self.view_is ((moved c).took c.self.invariant)

pub returns-clause-woke : goal.returns-clause-woke
returns-clause-woke c = subst (λ (l : Loop). Wakes l (new c)) c.self.view_is (woke c)

pub returns-clause-others : goal.returns-clause-others
returns-clause-others c = λ k ne.
    subst (λ (l : Loop). IsSparedOrOver l (new c) k) c.self.view_is
    (spared-behind (old c) (mid c) (new c) k (λ x is. (x, is)) (passed-found c.self.inside.attended c.pass.new.self (ap (λ (z : Attended). z.outgoing) c.pass.ensures.next))
    (spared-last (mid c) c.serve_turn-served.new.hub c.serve_turn-served.new.attended c.fail.new.attended k (c.fail.ensures.others k ne) (c.serve_turn-served.ensures.others (later c) k ne)))
