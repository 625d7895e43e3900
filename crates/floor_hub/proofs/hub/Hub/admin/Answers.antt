use Rattle.floor_hub.specs.Gathers.{Gathers}
use Rattle.floor_hub.proofs.WentOn.{gathers-one}
use Rattle.floor_hub.specs.Shown.{Shows}
use Rattle.floor_hub.proofs.Handing.{shows-at}
use Rattle.floor_hub.proofs.Acting.{acted, admin_acted, quiet-act}
use Rattle.floor_hub.proofs.Left.{free, left-at}
use Rattle.floor_hub.proofs.RoomSteps.{event-room}
use Rattle.std.proofs.Common.{◌≡◌, refl, sym, subst, None}
use Rattle.std.specs.Prelude.{IfErr, MatchResult, OnErr, Result, Ok, Err}
use Rattle.floor_machine.specs.declared.machine.Refusal.TheVariants.{Memory}
use Rattle.floor_machine.specs.Machine.{event_of_act}
use Rattle.floor_room.specs.declared.refusal.RoomRefusal.{RoomRefusal}
use Rattle.floor_room.specs.declared.refusal.RoomRefusal.TheVariants.{Refused as ByMachine}
use Rattle.floor_room.specs.Calls.{Left}
use Rattle.floor_room.specs.Ledger.{IsRefusedBy, refusal}
use Rattle.floor_room.specs.Room.{Room}
use Rattle.floor_hub.specs.declared.refusal.HubRefusal.{HubRefusal}
use Rattle.floor_hub.specs.declared.refusal.HubRefusal.TheVariants.{ByRoom}
use Rattle.floor_hub.specs.declared.step.Step.TheVariants.{Admin}
use Rattle.floor_hub.specs.declared.step.Answer.TheVariants.{Done}
use Rattle.floor_hub.specs.Connections.{SameConnections, StayLive, connection_at}
use Rattle.floor_hub.specs.Hub.{Hub, is_forgotten, room_at}
use Rattle.floor_hub.specs.Left.{LeftAt}
use Rattle.floor_hub.specs.Rooms.{OneRoom, admin_event, by_broken, refusal_in}
use Rattle.floor_hub.specs.StandsFor.{StandsFor, Stood}
use Rattle.floor_hub.specs.Calls.{IsWant, Fails, Turns}
use Rattle.floor_hub.specs.World.{turn, World}
use Rattle.floor_hub.proofs.Closing.{ended, good, stood}
use Rattle.floor_hub.proofs.Outboxes.{grows-one, keeps-outboxes, were-same}
use Rattle.floor_hub.proofs.Forgetting.{event-ended}
use Rattle.floor_hub.proofs.Recalling.{Remembers, recalled, recalled-room, recalls, remembers, still-gone}
use Rattle.floor_hub.specs.steps.Serving.{EventIn}
use Rattle.floor_hub.proofs.hub.Hub.admin.Goals as goal
use Rattle.floor_hub.proofs.Attaching.{place-same}
use Rattle.floor_hub.proofs.Naming.{Named, moves-by, named-at}
use Rattle.floor_hub.proofs.Moving.{event-went}
use Rattle.floor_hub.specs.Concerned.{Concerns}

abbrev old : goal.After-gather → Hub
old c = record { rooms = c.self.inside.rooms.entries; connections = c.self.inside.connections; arrivals = c.self.inside.arrivals; concerned = c.self.inside.concerned.numbers; changed = c.self.inside.effects.changed.items; forgotten = c.self.inside.forgotten.keys; gathered = c.self.inside.gathered }

abbrev new : goal.After-gather → Hub
new c = record { rooms = c.admin_at-done.new.rooms.entries; connections = c.self.inside.connections; arrivals = c.self.inside.arrivals; concerned = c.admin_at-done.new.concerned.numbers; changed = c.admin_at-done.new.effects.changed.items; forgotten = c.self.inside.forgotten.keys; gathered = c.gather.new.self }

room : (c : goal.After-gather) → OneRoom by_broken (refusal_in c.admin_at-done.result) (admin_event c.args.act) c.args.conference (old c) (new c)
room c =
    event-room c.args.conference (event_of_act c.args.act) (old c) (new c) (is_forgotten (old c) c.args.conference) c.admin_at-done.result (room_at (old c) c.args.conference) refl c.admin_at-done.ensures.room.absent
    (λ r is. let t = c.admin_at-done.ensures.room.there r is in (t.0, t.1, t.2, t.3.0, t.3.1))

remember : (c : goal.After-gather) (w : World) → StandsFor (old c) w → Remembers (old c) (new c)
remember c w st =
    remembers (old c) (new c) w st refl (λ d e. still-gone by_broken (refusal_in c.admin_at-done.result) (admin_event c.args.act) c.args.conference (old c) (new c) (room c) d)
    (were-same (old c).connections (new c).connections (λ k. refl))

turns : (c : goal.After-gather) (w : World) → StandsFor (old c) w → MatchResult c.admin_at-done.result (λ v. Turns (new c) w (Admin c.args.conference c.args.act) (Done)) (λ r. Fails (new c) w (Admin c.args.conference c.args.act) r)
turns c w st =
    let at = recalled-room (EventIn (event_of_act c.args.act)) (old c) (new c) w st c.args.conference c.admin_at-done.result (event-ended (event_of_act c.args.act)) c.admin_at-done.ensures.room in
    ended (old c) (new c) w w st (remember c w st) (Admin c.args.conference c.args.act) (IsWant (turn w (Admin c.args.conference c.args.act)).answer) (λ v. Done) tt (good (old c) w st) c.admin_at-done.result
    (admin_acted (recalled (old c) (old c) w) (recalled (old c) (new c) w) (connection_at c.self.inside.connections) c.self.inside.arrivals w c.args.conference c.args.act (recalls (old c) w st) c.admin_at-done.result
    (acted (recalled (old c) (old c) w) (recalled (old c) (new c) w) (connection_at c.self.inside.connections) c.self.inside.arrivals w c.args.conference (event_of_act c.args.act) (quiet-act c.args.act) (recalls (old c) w st)
    c.admin_at-done.result (recalled (old c) (old c) w c.args.conference) refl at.absent
    (λ r is. let t = at.there r is in (t.0, t.1, t.2, t.3.0, t.3.1))))

still_stood : (c : goal.After-gather) → Stood (new c)
still_stood c =
    let w = c.self.invariant.stood.0 in
    stood (new c) w w (Admin c.args.conference c.args.act) (IsWant (turn w (Admin c.args.conference c.args.act)).answer) (λ v. Done) c.admin_at-done.result (turns c w c.self.invariant.stood.1)
    (keeps-outboxes (old c) (new c) (grows-one by_broken (refusal_in c.admin_at-done.result) (admin_event c.args.act) c.args.conference (old c) (new c) (room c))
    (were-same (old c).connections (new c).connections (λ k. refl)) c.self.invariant.stood.2)

named : (c : goal.After-gather) → Named c.admin_at-done.new.concerned (old c) (new c)
named c =
    named-at by_broken (refusal_in c.admin_at-done.result) (admin_event c.args.act) c.args.conference c.admin_at-done.new.effects.told.items c.self.inside.concerned c.admin_at-done.new.concerned (old c) (new c) (room c)
    c.admin_at-done.ensures.concerned refl (λ k. place-same (connection_at (old c).connections k) (connection_at (new c).connections k) refl)
    (moves-by c.args.conference (old c) (new c) (λ r is. let t = c.admin_at-done.ensures.room.there r is in (t.0, t.1, event-went (event_of_act c.args.act) r t.0 c.admin_at-done.result t.3)))
    (still_stood c) c.self.invariant.attached c.self.invariant.known

pub invariant_of-self : goal.invariant_of-self
invariant_of-self c = record { stood = still_stood c; attached = (named c).attached; known = (named c).known }

pub returns-clause-changed : goal.returns-clause-changed
returns-clause-changed c =
    subst (λ h. Shows h (new c)) c.self.view_is (shows-at by_broken (refusal_in c.admin_at-done.result) (admin_event c.args.act) c.args.conference (old c) (new c) (room c) c.admin_at-done.ensures.changed)

pub returns-clause-concerned : goal.returns-clause-concerned
returns-clause-concerned c = subst (λ h. Concerns h (new c)) c.self.view_is (named c).concerns

pub returns-clause-connections : goal.returns-clause-connections
returns-clause-connections c = subst (λ h. StayLive h.connections (new c).connections) c.self.view_is (λ k. place-same (connection_at (old c).connections k) (connection_at (new c).connections k) refl)

pub returns-clause-next : goal.returns-clause-next
returns-clause-next c = λ w st. turns c w (subst (λ h. StandsFor h w) (sym c.self.view_is) st)

pub returns-clause-room : goal.returns-clause-room
returns-clause-room c = subst (λ h. OneRoom by_broken (refusal_in c.admin_at-done.result) (admin_event c.args.act) c.args.conference h (new c)) c.self.view_is (room c)

-- what the room's refusal has left
fails : (c : goal.After-gather) (r s : Room) (res : Result (Unit {0}) HubRefusal) →
    IfErr res (λ x. (why : RoomRefusal) × (x ≡ ByRoom why) × IsRefusedBy {T = Unit {0}} (refusal r.ledger (event_of_act c.args.act)) (Err why) × Left r s (event_of_act c.args.act) why) →
    IfErr res (λ x. (why : RoomRefusal) × (x ≡ ByRoom why) × (why ≡ ByMachine Memory → refusal r.ledger (event_of_act c.args.act) ≡ None) × Left r s (event_of_act c.args.act) why)
fails c r s (Ok v) h = tt
fails c r s (Err x) h = (h.0, h.1, free r (event_of_act c.args.act) h.0 h.2, h.3)

-- an act leaves the connections
same : (c : goal.After-gather) (res : Result (Unit {0}) HubRefusal) → OnErr res (SameConnections (old c).connections (new c).connections)
same c (Ok v) = tt
same c (Err x) = λ k. refl

pub returns-clause-left : goal.returns-clause-left
returns-clause-left c =
    subst (λ h. IfErr c.admin_at-done.result (LeftAt (admin_event c.args.act) c.args.conference h (new c))) c.self.view_is
    (left-at (admin_event c.args.act) (event_of_act c.args.act) c.args.conference (old c) (new c) (λ r. refl) refl (is_forgotten (old c) c.args.conference) c.admin_at-done.result (room_at (old c) c.args.conference) refl c.admin_at-done.ensures.room.absent
    (λ r is. let t = c.admin_at-done.ensures.room.there r is in (t.0, t.1, t.2, fails c r t.0 c.admin_at-done.result t.3.1)) (same c c.admin_at-done.result))

pub returns-clause-gathered : goal.returns-clause-gathered
returns-clause-gathered c =
    subst (λ h. Gathers h (new c)) c.self.view_is
    (gathers-one by_broken (refusal_in c.admin_at-done.result) (admin_event c.args.act) c.args.conference (old c) (new c) c.before-before.result (room c)
    (λ r is. let t = c.admin_at-done.ensures.room.there r is in (t.0, t.1, event-went (event_of_act c.args.act) r t.0 c.admin_at-done.result t.3))
    (shows-at by_broken (refusal_in c.admin_at-done.result) (admin_event c.args.act) c.args.conference (old c) (new c) (room c) c.admin_at-done.ensures.changed)
    c.before-before.ensures.before c.gather.ensures.next)
