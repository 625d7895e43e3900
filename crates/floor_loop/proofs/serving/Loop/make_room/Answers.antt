use Rattle.floor_hub.specs.Gathers.{Gathers}
use Rattle.std.proofs.Common.{ap, refl, subst}
use Rattle.std.specs.Prelude.{IfSome}
use Rattle.floor_loop.specs.Away.{Away}
use Rattle.floor_loop.specs.Returned.{IsOldestOf}
use Rattle.floor_loop.specs.Done.{LeavesIf, NoSteps, Steps}
use Rattle.floor_loop.specs.Loop.{Attended, Loop, outgoing_in}
use Rattle.floor_loop.specs.Written.{Spares, TookNothing, Wakes}
use Rattle.floor_loop.specs.steps.Moved.{IsLoop, KeepsAll, Moved, loop_of}
use Rattle.floor_loop.proofs.Calls.{moved-kept}
use Rattle.floor_loop.proofs.Moving.{fewer, loop-moves, moved-behind}
use Rattle.floor_loop.proofs.Sparing.{passed-found, spares-behind}
use Rattle.floor_loop.proofs.Stepping.{keeps-passed, stays-kept, wakes-both, wakes-same}
use Rattle.floor_loop.proofs.serving.Loop.make_room.Goals as goal

abbrev old : goal.After-make_room → Loop
old c = loop_of c.self.inside.hub c.self.inside.attended

abbrev mid : goal.After-make_room → Loop
mid c = loop_of c.self.inside.hub c.pass.new.self

abbrev new : goal.After-make_room → Loop
new c = loop_of c.make_room.new.hub c.make_room.new.attended

keeps : (c : goal.After-make_room) → KeepsAll (outgoing_in c.self.inside.attended) (outgoing_in c.pass.new.self)
keeps c = keeps-passed c.self.inside.attended c.pass.new.self (ap (λ (z : Attended). z.outgoing) c.pass.ensures.next)

first : (c : goal.After-make_room) → Moved NoSteps (old c) (mid c)
first c = moved-kept (old c) (mid c) refl (keeps c) (fewer c.self.inside.attended c.pass.new.self (ap (λ (z : Attended). z.away) c.pass.ensures.next))

later : (c : goal.After-make_room) → IsLoop (mid c)
later c = loop-moves NoSteps (old c) (mid c) (first c) c.self.invariant

moved : (c : goal.After-make_room) → Moved (LeavesIf c.make_room.result) (old c) (new c)
moved c = moved-behind (LeavesIf c.make_room.result) (old c) (mid c) (new c) (first c) c.make_room.ensures.moved

woke : (c : goal.After-make_room) → Wakes (old c) (new c)
woke c =
    wakes-both NoSteps (LeavesIf c.make_room.result) (old c) (mid c) (new c) (first c) c.make_room.ensures.moved (later c).serving
    (wakes-same (old c) (mid c) (λ d. refl) (stays-kept (outgoing_in c.self.inside.attended) (outgoing_in c.pass.new.self) (keeps c)))
    (c.make_room.ensures.woke (later c))

pub invariant_of-self : goal.invariant_of-self
invariant_of-self c = loop-moves (LeavesIf c.make_room.result) (old c) (new c) (moved c) c.self.invariant

pub returns-clause-steps : goal.returns-clause-steps
returns-clause-steps c = subst (λ (l : Loop). Steps (LeavesIf c.make_room.result) l.hub (new c).hub) c.self.view_is (moved c).steps

pub returns-clause-gathered : goal.returns-clause-gathered
returns-clause-gathered c = subst (λ (l : Loop). Gathers l.hub (new c).hub) c.self.view_is (moved c).gathered

pub returns-clause-took : goal.returns-clause-took
returns-clause-took c = subst (λ (l : Loop). TookNothing l (new c)) c.self.view_is ((moved c).took c.self.invariant)

pub returns-clause-woke : goal.returns-clause-woke
returns-clause-woke c = subst (λ (l : Loop). Wakes l (new c)) c.self.view_is (woke c)

pub returns-clause-spares : goal.returns-clause-spares
returns-clause-spares c =
    subst (λ (l : Loop). Spares l (new c)) c.self.view_is
    (spares-behind (old c) (mid c) (new c) (λ k. refl) (passed-found c.self.inside.attended c.pass.new.self (ap (λ (z : Attended). z.outgoing) c.pass.ensures.next)) (c.make_room.ensures.spares (later c)))

pub returns-clause-found : goal.returns-clause-found
returns-clause-found c =
    subst (λ (l : Loop). IfSome c.make_room.result (λ number. IsOldestOf l.hub l.attended.away c.args.conference c.args.user number)) c.self.view_is
    (subst (λ (a : Away). IfSome c.make_room.result (λ number. IsOldestOf c.self.inside.hub a c.args.conference c.args.user number)) (ap (λ (z : Attended). z.away) c.pass.ensures.next)
    (c.make_room.ensures.found (later c)))
