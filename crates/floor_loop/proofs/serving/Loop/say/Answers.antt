use Rattle.floor_hub.specs.Gathers.{Gathers}
use Rattle.std.proofs.Common.{◌≡◌, ℕ, List, ap, subst, ◌∙◌, Some}
use Rattle.floor_hub.specs.declared.step.Step.TheVariants.{Say}
use Rattle.floor_hub.specs.Rooms.{OneRoom, say_event, by_broken, refusal_in}
use Rattle.floor_loop.specs.Done.{AtMost, Steps}
use Rattle.std.specs.Prelude.{IfOk, nat_eq}
use Rattle.floor_room.specs.Room.{Room}
use Rattle.floor_hub.specs.Hub.{room_at}
use Rattle.floor_hub.specs.World.{answer_said}
use Rattle.std.specs.Map.{lookup}
use Rattle.floor_loop.specs.Loop.{Attended, Loop, Outgoing, outgoing_in}
use Rattle.floor_loop.specs.Written.{Spares, TookNothing, Wakes}
use Rattle.floor_loop.specs.steps.Moved.{KeepsAll, Moved, loop_of}
use Rattle.floor_loop.proofs.Calls.{moved-say}
use Rattle.floor_loop.proofs.Moving.{fewer, loop-moves}
use Rattle.floor_loop.proofs.Sparing.{spared-beside, spares-by, stay-in}
use Rattle.floor_loop.proofs.Stepping.{keeps-both, keeps-passed, stays-kept, wakes-on}
use Rattle.floor_loop.proofs.serving.Loop.say.Goals as goal

abbrev old : goal.After-wake → Loop
old c = loop_of c.self.inside.hub c.self.inside.attended

abbrev new : goal.After-wake → Loop
new c = loop_of c.say-said.new.self c.wake.new.attended

keeps : (c : goal.After-wake) → KeepsAll (outgoing_in c.self.inside.attended) (outgoing_in c.wake.new.attended)
keeps c =
    keeps-both (outgoing_in c.self.inside.attended) (outgoing_in c.pass.new.self) (outgoing_in c.wake.new.attended)
    (keeps-passed c.self.inside.attended c.pass.new.self (ap (λ (z : Attended). z.outgoing) c.pass.ensures.next)) c.wake.ensures.kept

moved : (c : goal.After-wake) → Moved (AtMost 1 (Say c.args.conference c.args.user c.args.message.now)) (old c) (new c)
moved c = moved-say c.args.conference c.args.user c.args.message.now (old c) (new c) c.say-said.result c.say-said.ensures.next c.say-said.ensures.room c.say-said.ensures.connections c.say-said.ensures.concerned c.say-said.ensures.gathered (keeps c) (fewer c.self.inside.attended c.wake.new.attended (c.wake.ensures.away ∙ ap (λ (z : Attended). z.away) c.pass.ensures.next)) c.wake.ensures.woken

woke : (c : goal.After-wake) → Wakes (old c) (new c)
woke c = wakes-on (old c) (new c) c.say-said.ensures.concerned (stays-kept (outgoing_in c.self.inside.attended) (outgoing_in c.wake.new.attended) (keeps c)) c.wake.ensures.woken

pub invariant_of-self : goal.invariant_of-self
invariant_of-self c = loop-moves (AtMost 1 (Say c.args.conference c.args.user c.args.message.now)) (old c) (new c) (moved c) c.self.invariant

pub returns-clause-steps : goal.returns-clause-steps
returns-clause-steps c = subst (λ (l : Loop). Steps (AtMost 1 (Say c.args.conference c.args.user c.args.message.now)) l.hub (new c).hub) c.self.view_is (moved c).steps

pub returns-clause-gathered : goal.returns-clause-gathered
returns-clause-gathered c = subst (λ (l : Loop). Gathers l.hub (new c).hub) c.self.view_is (moved c).gathered

pub returns-clause-took : goal.returns-clause-took
returns-clause-took c = subst (λ (l : Loop). TookNothing l (new c)) c.self.view_is ((moved c).took c.self.invariant)

pub returns-clause-woke : goal.returns-clause-woke
returns-clause-woke c = subst (λ (l : Loop). Wakes l (new c)) c.self.view_is (woke c)

pub returns-clause-spares : goal.returns-clause-spares
returns-clause-spares c =
    subst (λ (l : Loop). Spares l (new c)) c.self.view_is
    (spares-by (old c) (new c) c.self.invariant.serving (stay-in c.self.inside.hub c.say-said.new.self (moved c).live)
    (λ k x y is_x is_y. spared-beside c.say-said.new.self c.self.inside.attended c.pass.new.self c.wake.new.attended k
    (ap (λ (es : List (ℕ × Outgoing)). lookup (nat_eq k) es) (ap (λ (z : Attended). z.outgoing) c.pass.ensures.next)) (c.wake.ensures.spared k)))

pub returns-clause-room : goal.returns-clause-room
returns-clause-room c = subst (λ (l : Loop). OneRoom by_broken (refusal_in c.say-said.result) (say_event c.args.user c.args.message.now) c.args.conference l.hub (new c).hub) c.self.view_is c.say-said.ensures.room

pub returns-clause-said : goal.returns-clause-said
returns-clause-said c =
    subst (λ (l : Loop). IfOk c.say-said.result (λ v. (r : Room) × (room_at l.hub c.args.conference ≡ Some r) × (v ≡ answer_said r.ledger c.args.user c.args.message.now))) c.self.view_is c.say-said.ensures.said
