use Rattle.std.proofs.Common.{◌≡◌, refl, sym, subst, None}
use Rattle.std.specs.Prelude.{IfErr, OnErr, OnOk}
use Rattle.floor_hub.specs.Hub.{Hub, is_forgotten, room_at}
use Rattle.floor_hub.specs.Rooms.{KeepsIn, SameHub, forgotten_or_none}
use Rattle.floor_hub.specs.StandsFor.{StandsFor}
use Rattle.floor_hub.specs.steps.KeptBy.{kept_by}
use Rattle.floor_hub.proofs.KeptRooms.{kept-in, known-kept, left-kept, outboxes-kept, refused-kept, stands-kept}
use Rattle.floor_hub.proofs.hub.Hub.set_kept.Goals as goal

abbrev old : goal.After-keep_at → Hub
old c = record { rooms = c.self.inside.rooms.entries; connections = c.self.inside.connections; arrivals = c.self.inside.arrivals; concerned = c.self.inside.concerned.numbers; changed = c.self.inside.effects.changed.items; forgotten = c.self.inside.forgotten.keys; gathered = c.self.inside.gathered }

abbrev new : goal.After-keep_at → Hub
new c = record { rooms = c.keep_at.new.rooms.entries; connections = c.self.inside.connections; arrivals = c.self.inside.arrivals; concerned = c.self.inside.concerned.numbers; changed = c.self.inside.effects.changed.items; forgotten = c.self.inside.forgotten.keys; gathered = c.self.inside.gathered }

pub invariant_of-self : goal.invariant_of-self
invariant_of-self c =
    let stood = c.self.invariant.stood in
    record {
      stood = (
        stood.0,
        stands-kept c.args.keeping c.args.conference (old c) (new c) c.keep_at.result c.keep_at.ensures.room (λ k. refl) refl (λ d. refl) stood.0 stood.1,
        outboxes-kept c.args.keeping c.args.conference (old c) (new c) c.keep_at.result c.keep_at.ensures.room (λ k. refl) refl (λ d. refl) stood.2,
      );
      attached = c.self.invariant.attached;
      known = known-kept c.args.keeping c.args.conference (old c) (new c) c.keep_at.result c.keep_at.ensures.room (λ k. refl) refl (λ d. refl) c.self.inside.concerned c.self.invariant.known;
    }

pub returns-clause-stands : goal.returns-clause-stands
returns-clause-stands c = λ w st.
    stands-kept c.args.keeping c.args.conference (old c) (new c) c.keep_at.result c.keep_at.ensures.room (λ k. refl) refl (λ d. refl) w (subst (λ (h : Hub). StandsFor h w) (sym c.self.view_is) st)

pub returns-clause-kept : goal.returns-clause-kept
returns-clause-kept c =
    subst (λ (h : Hub). OnOk c.keep_at.result (KeepsIn (kept_by c.args.keeping) c.args.conference h (new c))) c.self.view_is
    (kept-in c.args.keeping c.args.conference (old c) (new c) c.keep_at.result c.keep_at.ensures.room (λ k. refl) refl (λ d. refl))

pub returns-clause-refused : goal.returns-clause-refused
returns-clause-refused c =
    subst (λ (h : Hub). IfErr c.keep_at.result (λ refusal. (room_at h c.args.conference ≡ None) × (refusal ≡ forgotten_or_none (is_forgotten h c.args.conference)))) c.self.view_is
    (refused-kept c.args.keeping c.args.conference (old c) (new c) c.keep_at.result c.keep_at.ensures.room (λ k. refl) refl (λ d. refl))

pub returns-clause-left : goal.returns-clause-left
returns-clause-left c =
    subst (λ (h : Hub). OnErr c.keep_at.result (SameHub h (new c))) c.self.view_is
    (left-kept c.args.keeping c.args.conference (old c) (new c) c.keep_at.result c.keep_at.ensures.room (λ k. refl) refl (λ d. refl))
