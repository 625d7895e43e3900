use Rattle.floor_hub.specs.Gathers.{Gathers}
use Rattle.std.proofs.Common.{◌≡◌, ℕ, Some, ap, refl, subst}
use Rattle.std.specs.Prelude.{IfOk, OnOk}
use Rattle.floor_loop.specs.Done.{Hands, NoSteps, Reads, Serves, Steps}
use Rattle.floor_loop.specs.Loop.{Attended, Loop, Outgoing, outgoing_in}
use Rattle.floor_loop.specs.Written.{IsSparedOrOver, Spares, TookNothing, Wakes}
use Rattle.floor_loop.specs.steps.Moved.{IsLoop, KeepsAll, Moved, loop_of}
use Rattle.floor_loop.proofs.Calls.{moved-kept}
use Rattle.floor_loop.proofs.Moving.{fewer, loop-moves, moved-behind}
use Rattle.floor_loop.proofs.Handing.{on-ok-of}
use Rattle.floor_loop.proofs.Sparing.{passed-found, spared-behind, spares-behind}
use Rattle.floor_loop.proofs.Stepping.{keeps-passed, stays-kept, wakes-both, wakes-same}
use Rattle.floor_loop.proofs.serving.Loop.read.Goals as goal

abbrev old : goal.After-read_turn → Loop
old c = loop_of c.self.inside.hub c.self.inside.attended

abbrev mid : goal.After-read_turn → Loop
mid c = loop_of c.self.inside.hub c.pass.new.self

abbrev new : goal.After-read_turn → Loop
new c = loop_of c.read_turn.new.hub c.read_turn.new.attended

keeps : (c : goal.After-read_turn) → KeepsAll (outgoing_in c.self.inside.attended) (outgoing_in c.pass.new.self)
keeps c = keeps-passed c.self.inside.attended c.pass.new.self (ap (λ (z : Attended). z.outgoing) c.pass.ensures.next)

first : (c : goal.After-read_turn) → Moved NoSteps (old c) (mid c)
first c = moved-kept (old c) (mid c) refl (keeps c) (fewer c.self.inside.attended c.pass.new.self (ap (λ (z : Attended). z.away) c.pass.ensures.next))

later : (c : goal.After-read_turn) → IsLoop (mid c)
later c = loop-moves NoSteps (old c) (mid c) (first c) c.self.invariant

moved : (c : goal.After-read_turn) → Moved (Reads c.args.number c.args.bytes.now c.args.most) (old c) (new c)
moved c = moved-behind (Reads c.args.number c.args.bytes.now c.args.most) (old c) (mid c) (new c) (first c) c.read_turn.ensures.moved

woke : (c : goal.After-read_turn) → Wakes (old c) (new c)
woke c =
    wakes-both NoSteps (Reads c.args.number c.args.bytes.now c.args.most) (old c) (mid c) (new c) (first c) c.read_turn.ensures.moved (later c).serving
    (wakes-same (old c) (mid c) (λ d. refl) (stays-kept (outgoing_in c.self.inside.attended) (outgoing_in c.pass.new.self) (keeps c))) (c.read_turn.ensures.woke (later c))

pub invariant_of-self : goal.invariant_of-self
invariant_of-self c = loop-moves (Reads c.args.number c.args.bytes.now c.args.most) (old c) (new c) (moved c) c.self.invariant

pub returns-clause-steps : goal.returns-clause-steps
returns-clause-steps c = subst (λ (l : Loop). Steps (Reads c.args.number c.args.bytes.now c.args.most) l.hub (new c).hub) c.self.view_is (moved c).steps

pub returns-clause-gathered : goal.returns-clause-gathered
returns-clause-gathered c = subst (λ (l : Loop). Gathers l.hub (new c).hub) c.self.view_is (moved c).gathered

pub returns-clause-took : goal.returns-clause-took
returns-clause-took c = subst (λ (l : Loop). TookNothing l (new c)) c.self.view_is ((moved c).took c.self.invariant)

pub returns-clause-woke : goal.returns-clause-woke
returns-clause-woke c = subst (λ (l : Loop). Wakes l (new c)) c.self.view_is (woke c)

pub returns-clause-handed : goal.returns-clause-handed
returns-clause-handed c = subst (λ (l : Loop). OnOk c.read_turn.result (Steps (Hands c.args.number c.args.bytes.now c.args.most) l.hub (new c).hub)) c.self.view_is c.read_turn.ensures.handed

pub returns-clause-served : goal.returns-clause-served
returns-clause-served c = subst (λ (l : Loop). IfOk c.read_turn.result (λ more. Serves c.args.number c.args.most more l.hub (new c).hub)) c.self.view_is (c.read_turn.ensures.served (later c))

found : (c : goal.After-read_turn) (k : ℕ) (o : Outgoing) → outgoing_in c.self.inside.attended k ≡ Some o → (p : Outgoing) × (outgoing_in c.pass.new.self k ≡ Some p) × (p.ends ≡ o.ends)
found c = passed-found c.self.inside.attended c.pass.new.self (ap (λ (z : Attended). z.outgoing) c.pass.ensures.next)

pub returns-clause-spares : goal.returns-clause-spares
returns-clause-spares c =
    subst (λ (l : Loop). OnOk c.read_turn.result (Spares l (new c))) c.self.view_is
    (on-ok-of (Spares (mid c) (new c)) (Spares (old c) (new c)) c.read_turn.result (spares-behind (old c) (mid c) (new c) (λ k. refl) (found c)) (c.read_turn.ensures.spares (later c)))

pub returns-clause-others : goal.returns-clause-others
returns-clause-others c = λ k ne.
    subst (λ (l : Loop). IsSparedOrOver l (new c) k) c.self.view_is
    (spared-behind (old c) (mid c) (new c) k (λ x is. (x, is)) (found c) (c.read_turn.ensures.others (later c) k ne))
