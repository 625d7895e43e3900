use Rattle.floor_hub.specs.Gathers.{Gathers}
use Rattle.floor_hub.proofs.WentOn.{gathers-of}
use Rattle.floor_hub.specs.Shown.{Shows}
use Rattle.floor_hub.proofs.Handing.{shows-of}
use Rattle.floor_hub.proofs.Acknowledging.{took_result}
use Rattle.floor_hub.proofs.Left.{free, left-took}
use Rattle.floor_hub.proofs.RoomSteps.{took-room}
use Rattle.std.proofs.Common.{◌≡◌, ℕ, false, Some, refl, sym, subst, None}
use Rattle.std.specs.Prelude.{IfErr, MatchResult, Result, Ok, Err, nat_eq}
use Rattle.floor_machine.specs.declared.event.Event.TheVariants.{Took as Takes}
use Rattle.floor_machine.specs.declared.machine.Refusal.TheVariants.{Memory}
use Rattle.floor_room.specs.declared.refusal.RoomRefusal.{RoomRefusal}
use Rattle.floor_room.specs.declared.refusal.RoomRefusal.TheVariants.{Refused as ByMachine}
use Rattle.floor_room.specs.Calls.{Left}
use Rattle.floor_room.specs.Room.{Room}
use Rattle.floor_hub.specs.declared.connection.Connection.{Connection}
use Rattle.floor_hub.specs.declared.refusal.HubRefusal.{HubRefusal}
use Rattle.floor_hub.specs.declared.refusal.HubRefusal.TheVariants.{ByRoom}
use Rattle.floor_hub.specs.declared.step.Step.TheVariants.{Took}
use Rattle.floor_hub.specs.declared.step.Answer.TheVariants.{Done}
use Rattle.floor_hub.specs.Connections.{StayLive, connection_at}
use Rattle.floor_hub.specs.Hub.{Hub, room_at}
use Rattle.floor_hub.specs.Left.{LeftTaking}
use Rattle.floor_hub.specs.Rooms.{IsRefusedIn, RoomOf, by_broken, refusal_in, took_event}
use Rattle.floor_hub.specs.StandsFor.{StandsFor, Stood}
use Rattle.floor_hub.specs.Calls.{IsWant, Fails, Turns}
use Rattle.floor_hub.specs.steps.Serving.{EventIn, TookOf}
use Rattle.floor_hub.specs.World.{turn, World}
use Rattle.floor_hub.proofs.Closing.{ended, good, stood}
use Rattle.floor_hub.proofs.Outboxes.{grows-of, keeps-outboxes, outbox-room, were-same}
use Rattle.floor_hub.proofs.Recalling.{Remembers, recalled, recalled-connection, recalls, remembers, still-gone-of}
use Rattle.floor_hub.proofs.hub.Hub.took.Goals as goal
use Rattle.floor_room.specs.Ledger.{refusal}
use Rattle.floor_hub.proofs.Attaching.{place-same}
use Rattle.floor_hub.proofs.Naming.{Named, moves-by, named-of-one}
use Rattle.floor_hub.proofs.Moving.{event-went}
use Rattle.floor_hub.specs.Concerned.{Concerns}

abbrev old : goal.After-gather → Hub
old c = record { rooms = c.self.inside.rooms.entries; connections = c.self.inside.connections; arrivals = c.self.inside.arrivals; concerned = c.self.inside.concerned.numbers; changed = c.self.inside.effects.changed.items; forgotten = c.self.inside.forgotten.keys; gathered = c.self.inside.gathered }

abbrev new : goal.After-gather → Hub
new c = record { rooms = c.took_at-taken.new.rooms.entries; connections = c.self.inside.connections; arrivals = c.self.inside.arrivals; concerned = c.took_at-taken.new.concerned.numbers; changed = c.took_at-taken.new.effects.changed.items; forgotten = c.self.inside.forgotten.keys; gathered = c.gather.new.self }

there : (c : goal.After-gather) (x : Connection) → connection_at (old c).connections c.args.number ≡ Some x → (r : Room) → room_at (old c) x.conference ≡ Some r →
    (s : Room) × (room_at (new c) x.conference ≡ Some s) × ((d : ℕ) → nat_eq x.conference d ≡ false → room_at (new c) d ≡ room_at (old c) d) × EventIn (Takes x.n c.args.k) r s c.took_at-taken.result
there c x is r room = let t = c.took_at-taken.ensures.connection.there x is r room in (t.0, t.2, t.3, t.5.1)

room : (c : goal.After-gather) → RoomOf by_broken (refusal_in c.took_at-taken.result) (took_event c.args.k) (connection_at (old c).connections c.args.number) (old c) (new c)
room c =
    took-room c.args.number (old c) (new c) c.self.invariant.stood.0 c.self.invariant.stood.1 c.args.k c.took_at-taken.result (connection_at c.self.inside.connections c.args.number) refl
    c.took_at-taken.ensures.connection.absent refl (there c)

remember : (c : goal.After-gather) (w : World) → StandsFor (old c) w → Remembers (old c) (new c)
remember c w st =
    remembers (old c) (new c) w st refl (λ d e. still-gone-of by_broken (refusal_in c.took_at-taken.result) (took_event c.args.k) (connection_at (old c).connections c.args.number) (old c) (new c) (room c) d)
    (were-same (old c).connections (new c).connections (λ k. refl))

turns : (c : goal.After-gather) (w : World) → StandsFor (old c) w → MatchResult c.took_at-taken.result (λ v. Turns (new c) w (Took c.args.number c.args.k) Done) (λ r. Fails (new c) w (Took c.args.number c.args.k) r)
turns c w st =
    let at = recalled-connection (TookOf c.args.k) (old c) (new c) w st c.args.number c.took_at-taken.result c.took_at-taken.ensures.connection in
    ended (old c) (new c) w w st (remember c w st) (Took c.args.number c.args.k) (IsWant (turn w (Took c.args.number c.args.k)).answer) (λ v. Done) tt (good (old c) w st) c.took_at-taken.result
    (took_result (recalled (old c) (old c) w) (recalled (old c) (new c) w) (connection_at c.self.inside.connections) c.self.inside.arrivals w c.args.number c.args.k (recalls (old c) w st)
    c.took_at-taken.result (connection_at c.self.inside.connections c.args.number) refl
    (λ none. let a = at.absent none in (a.0, a.1)) (λ x is r room. let t = at.there x is r room in (t.0, t.2, t.3, t.5.1)))

still_stood : (c : goal.After-gather) → Stood (new c)
still_stood c =
    let w = c.self.invariant.stood.0 in
    stood (new c) w w (Took c.args.number c.args.k) (IsWant (turn w (Took c.args.number c.args.k)).answer) (λ v. Done) c.took_at-taken.result (turns c w c.self.invariant.stood.1)
    (keeps-outboxes (old c) (new c) (grows-of by_broken (refusal_in c.took_at-taken.result) (took_event c.args.k) (connection_at (old c).connections c.args.number) (old c) (new c) (room c))
    (were-same (old c).connections (new c).connections (λ k. refl)) c.self.invariant.stood.2)

named : (c : goal.After-gather) → Named c.took_at-taken.new.concerned (old c) (new c)
named c =
    named-of-one by_broken (refusal_in c.took_at-taken.result) (took_event c.args.k) c.took_at-taken.new.effects.told.items c.self.inside.concerned c.took_at-taken.new.concerned (old c) (new c) (connection_at (old c).connections c.args.number) (room c)
    c.took_at-taken.ensures.concerned refl (λ k. place-same (connection_at (old c).connections k) (connection_at (new c).connections k) refl)
    (λ x is. moves-by x.conference (old c) (new c) (λ r room. let t = there c x is r room in (t.0, t.1, event-went (Takes x.n c.args.k) r t.0 c.took_at-taken.result t.3)))
    (still_stood c) c.self.invariant.attached c.self.invariant.known

pub invariant_of-self : goal.invariant_of-self
invariant_of-self c = record { stood = still_stood c; attached = (named c).attached; known = (named c).known }

pub returns-clause-changed : goal.returns-clause-changed
returns-clause-changed c =
    subst (λ h. Shows h (new c)) c.self.view_is (shows-of by_broken (refusal_in c.took_at-taken.result) (took_event c.args.k) (old c) (new c) (connection_at (old c).connections c.args.number) (room c) c.took_at-taken.ensures.changed)

pub returns-clause-concerned : goal.returns-clause-concerned
returns-clause-concerned c = subst (λ h. Concerns h (new c)) c.self.view_is (named c).concerns

pub returns-clause-connections : goal.returns-clause-connections
returns-clause-connections c = subst (λ h. StayLive h.connections (new c).connections) c.self.view_is (λ k. place-same (connection_at (old c).connections k) (connection_at (new c).connections k) refl)

pub returns-clause-next : goal.returns-clause-next
returns-clause-next c = λ w st. turns c w (subst (λ h. StandsFor h w) (sym c.self.view_is) st)

pub returns-clause-room : goal.returns-clause-room
returns-clause-room c = subst (λ h. RoomOf by_broken (refusal_in c.took_at-taken.result) (took_event c.args.k) (connection_at h.connections c.args.number) h (new c)) c.self.view_is (room c)

-- what the room's refusal has left
fails : (c : goal.After-gather) (x : Connection) (r s : Room) (res : Result (Unit {0}) HubRefusal) → EventIn (Takes x.n c.args.k) r s res →
    IfErr res (λ z. (why : RoomRefusal) × (z ≡ ByRoom why) × (why ≡ ByMachine Memory → refusal r.ledger (Takes x.n c.args.k) ≡ None) × Left r s (Takes x.n c.args.k) why)
fails c x r s (Ok v) h = tt
fails c x r s (Err z) h = (h.1.0, h.1.1, free r (Takes x.n c.args.k) h.1.0 h.1.2, h.1.3)

pub returns-clause-left : goal.returns-clause-left
returns-clause-left c =
    subst (λ h. IfErr c.took_at-taken.result (LeftTaking c.args.k (connection_at h.connections c.args.number) h (new c))) c.self.view_is
    (left-took c.args.number c.args.k (old c) (new c) refl c.took_at-taken.result (connection_at c.self.inside.connections c.args.number) refl
    (λ none. let a = c.took_at-taken.ensures.connection.absent none in (a.0, a.1))
    (λ x is. let r = outbox-room (room_at (old c) x.conference) x.n (c.self.invariant.stood.2 c.args.number x is) in
    let t = there c x is r.0 r.1 in (r.0, t.0, r.1, t.1, t.2, fails c x r.0 t.0 c.took_at-taken.result t.3)) (λ k. refl))

-- and why it is refused
refuses : (c : goal.After-gather) (x : Connection) (r s : Room) (res : Result (Unit {0}) HubRefusal) → EventIn (Takes x.n c.args.k) r s res → IfErr res (IsRefusedIn (Takes x.n c.args.k) r)
refuses c x r s (Ok v) h = tt
refuses c x r s (Err z) h = (h.1.0, h.1.1, h.1.2)

pub returns-clause-refused : goal.returns-clause-refused
returns-clause-refused c =
    subst (λ h. (x : Connection) (r : Room) → connection_at h.connections c.args.number ≡ Some x → room_at h x.conference ≡ Some r → IfErr c.took_at-taken.result (IsRefusedIn (Takes x.n c.args.k) r)) c.self.view_is
    (λ x r is room. let t = there c x is r room in refuses c x r t.0 c.took_at-taken.result t.3)

pub returns-clause-gathered : goal.returns-clause-gathered
returns-clause-gathered c =
    subst (λ h. Gathers h (new c)) c.self.view_is
    (gathers-of by_broken (refusal_in c.took_at-taken.result) (took_event c.args.k) (connection_at (old c).connections c.args.number) (old c) (new c) c.before_of-before.result (room c)
    (λ x is r room. let t = there c x is r room in (t.0, t.1, event-went (Takes x.n c.args.k) r t.0 c.took_at-taken.result t.3))
    (shows-of by_broken (refusal_in c.took_at-taken.result) (took_event c.args.k) (old c) (new c) (connection_at (old c).connections c.args.number) (room c) c.took_at-taken.ensures.changed)
    c.before_of-before.ensures.before c.gather.ensures.next)
