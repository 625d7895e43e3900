use Rattle.std.proofs.Common.{ℕ, refl, sym, ◌∙◌, ap, subst}
use Rattle.std.specs.Prelude.{nat_eq}
use Rattle.floor_hub.specs.Connections.{connection_at}
use Rattle.floor_hub.specs.Hub.{Hub, room_at}
use Rattle.floor_hub.specs.Rooms.{Forgets, IsOver}
use Rattle.floor_hub.specs.StandsFor.{StandsFor}
use Rattle.floor_hub.proofs.Attaching.{attached-same, place-same}
use Rattle.floor_hub.proofs.Forgetting.{known-forgot, nobody-listed, stands-forgot, stood-forgot}
use Rattle.floor_hub.proofs.hub.Hub.forget.Goals as goal

pub forget-requires : goal.forget-requires
forget-requires c =
    let old : Hub = record { rooms = c.self.inside.rooms.entries; connections = c.self.inside.connections; arrivals = c.self.inside.arrivals; concerned = c.self.inside.concerned.numbers; changed = c.self.inside.effects.changed.items; forgotten = c.self.inside.forgotten.keys; gathered = c.self.inside.gathered } in
    nobody-listed old c.self.inside.concerned c.args.conference c.self.invariant.attached (subst (IsOver c.args.conference) (sym c.self.view_is) c.in-None.ensures.none).nobody

abbrev old : goal.Joined-room → Hub
old c = record { rooms = c.self.inside.rooms.entries; connections = c.self.inside.connections; arrivals = c.self.inside.arrivals; concerned = c.self.inside.concerned.numbers; changed = c.self.inside.effects.changed.items; forgotten = c.self.inside.forgotten.keys; gathered = c.self.inside.gathered }

abbrev new : goal.Joined-room → Hub
new c = record { rooms = c.swap_remove-room.new.self.entries; connections = c.self.inside.connections; arrivals = c.self.inside.arrivals; concerned = c.forget.new.self.numbers; changed = c.self.inside.effects.changed.items; forgotten = c.insert.new.self.keys; gathered = c.self.inside.gathered }

forgot : (c : goal.Joined-room) → Forgets c.args.conference (old c) (new c)
forgot c = record {
  over = subst (IsOver c.args.conference) (sym c.self.view_is) c.in-None.ensures.none;
  gone = ap (room_at (new c)) (sym c.from.ensures) ∙ c.swap_remove-room.ensures.updates.1;
  forgotten = c.in-Ok.ensures.updates.1;
  rooms = λ d ne. c.swap_remove-room.ensures.updates.2 d (ap (λ (k : ℕ). nat_eq k d) c.from.ensures ∙ ne);
  others = c.in-Ok.ensures.updates.2;
  connections = λ k. refl;
  arrivals = refl;
}

pub invariant_of-self-2 : goal.invariant_of-self-2
invariant_of-self-2 c = record {
  stood = stood-forgot c.args.conference (old c) (new c) (forgot c) c.self.invariant.stood;
  attached = attached-same c.self.inside.concerned c.forget.new.self (connection_at (old c).connections) (connection_at (new c).connections) c.forget.ensures.next
      (λ k. place-same (connection_at (old c).connections k) (connection_at (new c).connections k) refl) c.self.invariant.attached;
  known = known-forgot c.args.conference (old c) (new c) (forgot c) c.self.inside.concerned c.forget.new.self c.forget.ensures.next c.self.invariant.known;
}

pub returns-clause-stands : goal.returns-clause-stands
returns-clause-stands c = λ w st. stands-forgot c.args.conference (old c) (new c) (forgot c) w (subst (λ (h : Hub). StandsFor h w) (sym c.self.view_is) st)
