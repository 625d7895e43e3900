use Rattle.floor_hub.specs.Gathers.{Gathers}
use Rattle.std.proofs.Common.{◌≡◌, ℕ, List, ap, refl, subst, Some}
use Rattle.std.specs.Prelude.{Bool, IfErr, IfOk, OnOk}
use Rattle.floor_loop.specs.Away.{Away}
use Rattle.floor_room.specs.Room.{Room}
use Rattle.floor_hub.specs.Hub.{room_at}
use Rattle.floor_hub.specs.Runs.{run}
use Rattle.floor_loop.specs.Done.{NoSteps, Returns, Steps}
use Rattle.floor_loop.specs.Loop.{Attended, Loop, Outgoing}
use Rattle.floor_loop.specs.Returned.{IsKeptPlace, IsRefusedAs, Returned}
use Rattle.floor_loop.specs.Written.{Spares, TookNothing, Wakes}
use Rattle.floor_loop.specs.steps.Moved.{IsLoop, loop_of}
use Rattle.floor_loop.proofs.Calls.{moved-kept}
use Rattle.floor_loop.proofs.Entering.{kept-place-passed, only, returned-passed}
use Rattle.floor_loop.proofs.Gathering.{if-ok}
use Rattle.floor_loop.proofs.Moving.{fewer, loop-moves}
use Rattle.floor_loop.proofs.Sparing.{passed-found, spares-behind}
use Rattle.floor_loop.proofs.Stepping.{keeps-passed}
use Rattle.floor_loop.proofs.Writing.{ready-some-at}
use Rattle.floor_loop.proofs.serving.Loop.attach.Goals as goal

abbrev old : goal.After-come → Loop
old c = loop_of c.self.inside.hub c.self.inside.attended

abbrev mid : goal.After-come → Loop
mid c = loop_of c.self.inside.hub c.pass.new.self

abbrev new : goal.After-come → Loop
new c = loop_of c.come.new.hub c.come.new.attended

later : (c : goal.After-come) → IsLoop (mid c)
later c = loop-moves NoSteps (old c) (mid c) (moved-kept (old c) (mid c) refl (keeps-passed c.self.inside.attended c.pass.new.self (ap (λ (z : Attended). z.outgoing) c.pass.ensures.next)) (fewer c.self.inside.attended c.pass.new.self (ap (λ (z : Attended). z.away) c.pass.ensures.next))) c.self.invariant

pub invariant_of-self : goal.invariant_of-self
invariant_of-self c =
    let l = later c in
    let g = c.come.ensures.steps l.world l.stands in
    let m = c.come.ensures.moved l in
    record { world = run l.world g.steps; stands = g.stands; serving = m.0; timed = m.1; own = m.3 }

pub returns-clause-steps : goal.returns-clause-steps
returns-clause-steps c = subst (λ (l : Loop). Steps (Returns c.args.conference c.args.user (new c).attended.away.back) l.hub (new c).hub) c.self.view_is c.come.ensures.steps

pub returns-clause-gathered : goal.returns-clause-gathered
returns-clause-gathered c = subst (λ (l : Loop). Gathers l.hub (new c).hub) c.self.view_is c.come.ensures.gathered

-- the time has no part in what sockets take, and whom a call wakes
same : (c : goal.After-come) → c.pass.new.self.outgoing ≡ c.self.inside.attended.outgoing
same c = ap (λ (z : Attended). z.outgoing) c.pass.ensures.next

pub returns-clause-took : goal.returns-clause-took
returns-clause-took c =
    subst (λ (l : Loop). TookNothing l (new c)) c.self.view_is
    (subst (λ (es : List (ℕ × Outgoing)). TookNothing (only c.self.inside.hub es) (new c)) (same c) (c.come.ensures.moved (later c)).2)

pub returns-clause-woke : goal.returns-clause-woke
returns-clause-woke c =
    subst (λ (l : Loop). Wakes l (new c)) c.self.view_is
    (subst (λ (es : List (ℕ × Outgoing)). Wakes (only c.self.inside.hub es) (new c)) (same c) (c.come.ensures.woke (later c)))

pub returns-clause-spares : goal.returns-clause-spares
returns-clause-spares c =
    subst (λ (l : Loop). Spares l (new c)) c.self.view_is
    (spares-behind (old c) (mid c) (new c) (λ k. refl) (passed-found c.self.inside.attended c.pass.new.self (same c)) (c.come.ensures.spares (later c)))

away : (c : goal.After-come) → c.pass.new.self.away ≡ c.self.inside.attended.away
away c = ap (λ (z : Attended). z.away) c.pass.ensures.next

pub returns-clause-joined : goal.returns-clause-joined
returns-clause-joined c =
    subst (λ (l : Loop). IfOk c.come.result (λ number. Returned c.args.conference c.args.user number l (new c))) c.self.view_is
    (if-ok c.come.result (λ number r. returned-passed c.args.conference c.args.user c.self.inside.hub c.self.inside.attended c.pass.new.self (away c) number (new c) r) (c.come.ensures.joined (later c)))

pub returns-clause-full : goal.returns-clause-full
returns-clause-full c =
    subst (λ (l : Loop). (r : Room) → room_at l.hub c.args.conference ≡ Some r → IsKeptPlace c.args.conference c.args.user r l → OnOk c.come.result ⊥) c.self.view_is
    (λ r is k. c.come.ensures.full (later c) r is (kept-place-passed c.args.conference c.args.user c.self.inside.hub c.self.inside.attended c.pass.new.self (away c) r k))

pub returns-clause-ready : goal.returns-clause-ready
returns-clause-ready c = if-ok c.come.result (λ number o. ready-some-at (new c).attended number o.0 o.1 o.2) (c.come.ensures.ready (later c))

pub returns-clause-fresh : goal.returns-clause-fresh
returns-clause-fresh c = c.come.ensures.fresh (later c)

pub returns-clause-own : goal.returns-clause-own
returns-clause-own c = (invariant_of-self c).own

pub returns-clause-refused : goal.returns-clause-refused
returns-clause-refused c =
    subst (λ (l : Loop). IfErr c.come.result (IsRefusedAs c.args.conference c.args.user l.attended.away.keeps_place l.hub (new c).hub)) c.self.view_is
    (subst (λ (b : Bool). IfErr c.come.result (IsRefusedAs c.args.conference c.args.user b c.self.inside.hub (new c).hub)) (ap (λ (z : Away). z.keeps_place) (away c)) c.come.ensures.refused)
