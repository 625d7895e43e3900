use Rattle.floor_hub.specs.Gathers.{Gathers}
use Rattle.std.proofs.Common.{ap, refl, subst}
use Rattle.floor_hub.specs.declared.step.Step.TheVariants.{Leave}
use Rattle.floor_loop.specs.Done.{AtMost, NoSteps, Steps}
use Rattle.floor_loop.specs.Loop.{Attended, Loop, outgoing_in}
use Rattle.floor_loop.specs.Written.{Spares, TookNothing, Wakes}
use Rattle.floor_loop.specs.steps.Moved.{IsLoop, KeepsAll, Moved, loop_of}
use Rattle.floor_loop.proofs.Calls.{moved-kept}
use Rattle.floor_loop.proofs.Moving.{fewer, loop-moves, moved-behind}
use Rattle.floor_loop.proofs.Sparing.{passed-found, spares-behind}
use Rattle.floor_loop.proofs.Stepping.{keeps-passed, stays-kept, wakes-both, wakes-same}
use Rattle.floor_loop.proofs.Throwing.{thrown-moves, thrown-spares, thrown-wakes}
use Rattle.floor_loop.proofs.serving.Loop.leave.Goals as goal

abbrev old : goal.After-leave_from → Loop
old c = loop_of c.self.inside.hub c.self.inside.attended

abbrev mid : goal.After-leave_from → Loop
mid c = loop_of c.self.inside.hub c.pass.new.self

-- behind what was thrown away
abbrev away : goal.After-leave_from → Loop
away c = loop_of c.throw_away.new.hub c.throw_away.new.attended

abbrev new : goal.After-leave_from → Loop
new c = loop_of c.leave_from.new.hub c.leave_from.new.attended

keeps : (c : goal.After-leave_from) → KeepsAll (outgoing_in c.self.inside.attended) (outgoing_in c.pass.new.self)
keeps c = keeps-passed c.self.inside.attended c.pass.new.self (ap (λ (z : Attended). z.outgoing) c.pass.ensures.next)

first : (c : goal.After-leave_from) → Moved NoSteps (old c) (mid c)
first c = moved-kept (old c) (mid c) refl (keeps c) (fewer c.self.inside.attended c.pass.new.self (ap (λ (z : Attended). z.away) c.pass.ensures.next))

later : (c : goal.After-leave_from) → IsLoop (mid c)
later c = loop-moves NoSteps (old c) (mid c) (first c) c.self.invariant

left : (c : goal.After-leave_from) → Moved (AtMost 1 (Leave c.args.number)) (mid c) (new c)
left c = thrown-moves c.args.number (mid c) (away c) (new c) c.throw_away.ensures.thrown c.leave_from.ensures.left (AtMost 1 (Leave c.args.number)) c.leave_from.ensures.moved

moved : (c : goal.After-leave_from) → Moved (AtMost 1 (Leave c.args.number)) (old c) (new c)
moved c = moved-behind (AtMost 1 (Leave c.args.number)) (old c) (mid c) (new c) (first c) (left c)

woke : (c : goal.After-leave_from) → Wakes (old c) (new c)
woke c =
    let thrown = c.throw_away.ensures.thrown in
    wakes-both NoSteps (AtMost 1 (Leave c.args.number)) (old c) (mid c) (new c) (first c) (left c) (later c).serving
    (wakes-same (old c) (mid c) (λ d. refl) (stays-kept (outgoing_in c.self.inside.attended) (outgoing_in c.pass.new.self) (keeps c)))
    (thrown-wakes c.args.number (mid c) (away c) (new c) thrown c.leave_from.ensures.left (later c) (c.leave_from.ensures.woke (thrown.loop (later c))))

pub invariant_of-self : goal.invariant_of-self
invariant_of-self c = loop-moves (AtMost 1 (Leave c.args.number)) (old c) (new c) (moved c) c.self.invariant

pub returns-clause-steps : goal.returns-clause-steps
returns-clause-steps c = subst (λ (l : Loop). Steps (AtMost 1 (Leave c.args.number)) l.hub (new c).hub) c.self.view_is (moved c).steps

pub returns-clause-gathered : goal.returns-clause-gathered
returns-clause-gathered c = subst (λ (l : Loop). Gathers l.hub (new c).hub) c.self.view_is (moved c).gathered

pub returns-clause-took : goal.returns-clause-took
returns-clause-took c = subst (λ (l : Loop). TookNothing l (new c)) c.self.view_is ((moved c).took c.self.invariant)

pub returns-clause-woke : goal.returns-clause-woke
returns-clause-woke c = subst (λ (l : Loop). Wakes l (new c)) c.self.view_is (woke c)

pub returns-clause-spares : goal.returns-clause-spares
returns-clause-spares c =
    subst (λ (l : Loop). Spares l (new c)) c.self.view_is
    (spares-behind (old c) (mid c) (new c) (λ k. refl) (passed-found c.self.inside.attended c.pass.new.self (ap (λ (z : Attended). z.outgoing) c.pass.ensures.next))
    (thrown-spares c.args.number (mid c) (away c) (new c) c.throw_away.ensures.thrown c.leave_from.ensures.left (c.leave_from.ensures.spares (c.throw_away.ensures.thrown.loop (later c)))))
