use Rattle.std.proofs.Common.{◌≡◌, Some, None, refl, sym, subst}
use Rattle.std.specs.Prelude.{IsErr, MatchResult, Ok, Option, Result}
use Rattle.floor_machine.specs.Parcel.{Parcel}
use Rattle.floor_room.specs.declared.outbox.NoMember.{NoMember}
use Rattle.floor_room.specs.Taking.{Gave}
use Rattle.floor_hub.specs.declared.connection.Connection.{Connection}
use Rattle.floor_hub.specs.Rooms.{KeptOf, TakenOf}
use Rattle.floor_hub.specs.Connections.{connection_at}
use Rattle.floor_hub.specs.Hub.{Hub, room_at}
use Rattle.floor_hub.specs.StandsFor.{HaveOutboxes, StandsFor}
use Rattle.floor_hub.specs.World.{World}
use Rattle.floor_hub.proofs.Closing.{good, stands_good}
use Rattle.floor_hub.proofs.Given.{take_stands}
use Rattle.floor_hub.proofs.Outboxes.{given-ok, grows-taken, keeps-outboxes, outbox-room, were-same}
use Rattle.floor_hub.proofs.Recalling.{Remembers, recalled, recalled-connection, recalls, remembers, still-gone-taken}
use Rattle.floor_hub.specs.steps.Serving.{TakeOf}
use Rattle.floor_hub.proofs.hub.Hub.take.Goals as goal
use Rattle.floor_hub.proofs.Naming.{known-taken}

abbrev old : goal.After-take_at → Hub
old c = record { rooms = c.self.inside.rooms.entries; connections = c.self.inside.connections; arrivals = c.self.inside.arrivals; concerned = c.self.inside.concerned.numbers; changed = c.self.inside.effects.changed.items; forgotten = c.self.inside.forgotten.keys; gathered = c.self.inside.gathered }

abbrev new : goal.After-take_at → Hub
new c = record { rooms = c.take_at.new.rooms.entries; connections = c.self.inside.connections; arrivals = c.self.inside.arrivals; concerned = c.self.inside.concerned.numbers; changed = c.self.inside.effects.changed.items; forgotten = c.self.inside.forgotten.keys; gathered = c.self.inside.gathered }

taken : (c : goal.After-take_at) (y : Option Connection) → connection_at (old c).connections c.args.number ≡ y → TakenOf y c.take_at.result (old c) (new c)
taken c None is = let a = c.take_at.ensures.connection.absent is in (a.0, record { rooms = a.1; connections = a.2; arrivals = refl })
taken c (Some x) is =
    let r = outbox-room (room_at (old c) x.conference) x.n (c.self.invariant.stood.2 c.args.number x is) in
    let t = c.take_at.ensures.connection.there x is r.0 r.1 in
    let g = given-ok r.0 t.0 x.n t.5.1.0 r.2 r.3 t.5.1.1 in (
      g.0,
      subst (λ (z : Result (Option Parcel) NoMember). MatchResult z (λ p. c.take_at.result ≡ Ok p) (λ _. IsErr c.take_at.result)) g.1 t.5.1.2,
      record {
        before = r.0;
        after = t.0;
        was = r.1;
        now = t.2;
        gave = subst (Gave r.0 t.0 x.n) g.1 t.5.1.1;
        others = t.3;
        connections = λ k. refl;
        arrivals = refl;
      },
    )

remember : (c : goal.After-take_at) (w : World) → StandsFor (old c) w → Remembers (old c) (new c)
remember c w st =
    remembers (old c) (new c) w st refl
    (λ d e. still-gone-taken (connection_at (old c).connections c.args.number) c.take_at.result (old c) (new c) (taken c (connection_at (old c).connections c.args.number) refl) d)
    (were-same (old c).connections (new c).connections (λ k. refl))

still : (c : goal.After-take_at) (w : World) → StandsFor (old c) w → StandsFor (new c) w
still c w st =
    let at = recalled-connection TakeOf (old c) (new c) w st c.args.number c.take_at.result c.take_at.ensures.connection in
    stands_good (old c) (new c) w w st (remember c w st) (good (old c) w st)
    (take_stands (recalled (old c) (old c) w) (recalled (old c) (new c) w) (connection_at c.self.inside.connections) c.self.inside.arrivals w c.args.number (recalls (old c) w st)
    (connection_at c.self.inside.connections c.args.number) refl (λ e. (at.absent e).1)
    (λ x is r room. let t = at.there x is r room in (t.0, t.2, t.3, t.5.1.1.same)))

queued : (c : goal.After-take_at) → HaveOutboxes (new c)
queued c =
    keeps-outboxes (old c) (new c) (grows-taken (connection_at (old c).connections c.args.number) c.take_at.result (old c) (new c) (taken c (connection_at (old c).connections c.args.number) refl))
    (were-same (old c).connections (new c).connections (λ k. refl)) c.self.invariant.stood.2

pub invariant_of-self : goal.invariant_of-self
invariant_of-self c = record {
  stood = (c.self.invariant.stood.0, still c c.self.invariant.stood.0 c.self.invariant.stood.1, queued c);
  attached = c.self.invariant.attached;
  known = known-taken (connection_at (old c).connections c.args.number) c.take_at.result (old c) (new c) c.self.inside.concerned (taken c (connection_at (old c).connections c.args.number) refl) c.self.invariant.known;
}

pub returns-clause-stands : goal.returns-clause-stands
returns-clause-stands c = λ w st. still c w (subst (λ h. StandsFor h w) (sym c.self.view_is) st)

pub returns-clause-given : goal.returns-clause-given
returns-clause-given c =
    subst (λ h. TakenOf (connection_at h.connections c.args.number) c.take_at.result h (new c)) c.self.view_is (taken c (connection_at (old c).connections c.args.number) refl)

pub returns-clause-kept : goal.returns-clause-kept
returns-clause-kept c = subst (λ h. KeptOf (connection_at h.connections c.args.number) h) c.self.view_is (by (connection_at (old c).connections c.args.number) refl)
  where
    by : (y : Option Connection) → connection_at (old c).connections c.args.number ≡ y → KeptOf y (old c)
    by None is = tt
    by (Some x) is = λ r there. c.take_at.ensures.kept x r is there
