use Rattle.std.proofs.Common.{ℕ, List, length, inr, refl, sym, ◌∙◌, ap, subst}
use Rattle.std.specs.Prelude.{◌==◌}
use Rattle.floor_hub.specs.declared.attached.Live.{Live}
use Rattle.floor_hub.specs.Hub.{Hub, room_at}
use Rattle.floor_hub.specs.Rooms.{IsOver, IsRemembered}
use Rattle.floor_hub.specs.declared.refusal.HubRefusal.TheVariants.{Running}
use Rattle.floor_hub.proofs.Forgetting.{attended, unattended}
use Rattle.floor_hub.proofs.Noting.{empty-none}
use Rattle.floor_hub.proofs.hub.Hub.why_remembered.Goals as goal

pub returns-then-is_empty-clause-none : goal.returns-then-is_empty-clause-none
returns-then-is_empty-clause-none c =
    let h : Hub = record { rooms = c.self.inside.rooms.entries; connections = c.self.inside.connections; arrivals = c.self.inside.arrivals; concerned = c.self.inside.concerned.numbers; changed = c.self.inside.effects.changed.items; forgotten = c.self.inside.forgotten.keys; gathered = c.self.inside.gathered } in
    let none = sym c.live.ensures.value ∙ empty-none c.live.result.now (sym c.is_empty.ensures ∙ c.if-is_empty.true) in
    let over : IsOver c.args.conference h = record {
      room = c.in-Some.room.now;
      there = ap (λ (k : ℕ). room_at h k) (sym c.from.ensures) ∙ sym c.in-Some.ensures.value;
      ended = c.if-not-has_ended.ensures.ended refl;
      nobody = unattended h c.self.inside.concerned c.args.conference c.self.invariant.attached none;
    } in
    subst (IsOver c.args.conference) c.self.view_is over

pub returns-else-is_empty-clause-some : goal.returns-else-is_empty-clause-some
returns-else-is_empty-clause-some c =
    let h : Hub = record { rooms = c.self.inside.rooms.entries; connections = c.self.inside.connections; arrivals = c.self.inside.arrivals; concerned = c.self.inside.concerned.numbers; changed = c.self.inside.effects.changed.items; forgotten = c.self.inside.forgotten.keys; gathered = c.self.inside.gathered } in
    let some = sym (ap (λ (z : List Live). length z == 0) c.live.ensures.value) ∙ sym c.is_empty.ensures ∙ c.if-is_empty.false in
    let kept : IsRemembered c.args.conference h Running = (c.in-Some.room.now, ap (λ (k : ℕ). room_at h k) (sym c.from.ensures) ∙ sym c.in-Some.ensures.value, inr (attended h c.self.inside.concerned c.args.conference c.self.invariant.attached some)) in
    subst (λ (z : Hub). IsRemembered c.args.conference z Running) c.self.view_is kept
