use Rattle.floor_hub.specs.Gathers.{Gathers}
use Rattle.floor_hub.proofs.WentOn.{gathers-of}
use Rattle.floor_hub.specs.Shown.{Shows}
use Rattle.floor_hub.proofs.Handing.{shows-of}
use Rattle.floor_hub.proofs.Departing.{leave_result}
use Rattle.floor_hub.proofs.Left.{left-leave}
use Rattle.floor_hub.proofs.RoomSteps.{leave-room}
use Rattle.std.proofs.Common.{◌≡◌, ℕ, false, Some, None, refl, sym, ◌∙◌, subst}
use Rattle.std.specs.Prelude.{IfErr, MatchResult, OnOk, Option, nat_eq}
use Rattle.floor_machine.specs.declared.machine.Refusal.TheVariants.{Memory}
use Rattle.floor_room.specs.declared.refusal.RoomRefusal.{RoomRefusal}
use Rattle.floor_room.specs.declared.refusal.RoomRefusal.TheVariants.{Refused as ByMachine}
use Rattle.floor_room.specs.Room.{Room}
use Rattle.floor_hub.specs.declared.refusal.HubRefusal.{HubRefusal}
use Rattle.floor_hub.specs.declared.refusal.HubRefusal.TheVariants.{ByRoom}
use Rattle.floor_hub.specs.declared.step.Step.TheVariants.{Leave}
use Rattle.floor_hub.specs.declared.step.Answer.TheVariants.{Done}
use Rattle.floor_hub.specs.Connections.{Puts, connection_at}
use Rattle.floor_hub.specs.declared.connection.Connection.{Connection}
use Rattle.floor_hub.specs.steps.Serving.{LeaveFailsIn, LeaveOf, LeavesIn}
use Rattle.floor_hub.specs.Hub.{Hub, room_at}
use Rattle.floor_hub.specs.Left.{LeftLeaving}
use Rattle.floor_hub.specs.Rooms.{RoomOf, leave_event, refusal_in}
use Rattle.floor_hub.specs.StandsFor.{StandsFor, Stood}
use Rattle.floor_hub.specs.Calls.{FailsGone, Turns}
use Rattle.floor_hub.specs.World.{IsIdle, World, turn}
use Rattle.floor_hub.proofs.Closing.{ended, good, good_next, stood}
use Rattle.floor_hub.proofs.Outboxes.{WasThere, grows-of, keeps-outboxes, outbox-room, were-of}
use Rattle.floor_hub.proofs.Recalling.{Remembers, recalled, recalled-connection, recalls, remembers, still-gone-of}
use Rattle.floor_hub.proofs.hub.Hub.leave.Goals as goal
use Rattle.floor_hub.specs.declared.step.Answer.{Answer}
use Rattle.floor_hub.proofs.Naming.{Named, moves-by, named-left}
use Rattle.floor_hub.proofs.Moving.{leave-went}
use Rattle.floor_hub.specs.Concerned.{Concerns}

abbrev old : goal.After-gather → Hub
old c = record { rooms = c.self.inside.rooms.entries; connections = c.self.inside.connections; arrivals = c.self.inside.arrivals; concerned = c.self.inside.concerned.numbers; changed = c.self.inside.effects.changed.items; forgotten = c.self.inside.forgotten.keys; gathered = c.self.inside.gathered }

abbrev new : goal.After-gather → Hub
new c = record { rooms = c.leave_at-left.new.rooms.entries; connections = c.leave_at-left.new.connections; arrivals = c.self.inside.arrivals; concerned = c.leave_at-left.new.concerned.numbers; changed = c.leave_at-left.new.effects.changed.items; forgotten = c.self.inside.forgotten.keys; gathered = c.gather.new.self }

abbrev Want : Answer → HubRefusal → Type 0
Want answer r = (r ≡ ByRoom (ByMachine Memory)) × (¬ IsIdle answer)

-- its connection is gone, since each live one has a room
gone : (c : goal.After-gather) (x : Connection) → connection_at (old c).connections c.args.number ≡ Some x → Puts (old c).connections (new c).connections c.args.number None
gone c x is =
    let r = outbox-room (room_at (old c) x.conference) x.n (c.self.invariant.stood.2 c.args.number x is) in
    let t = c.leave_at-left.ensures.connection.there x is r.0 r.1 in
    subst (Puts (old c).connections (new c).connections c.args.number) t.5.0 t.4

there : (c : goal.After-gather) (x : Connection) → connection_at (old c).connections c.args.number ≡ Some x → (r : Room) → room_at (old c) x.conference ≡ Some r →
    (s : Room) × (room_at (new c) x.conference ≡ Some s) × ((d : ℕ) → nat_eq x.conference d ≡ false → room_at (new c) d ≡ room_at (old c) d)
    × OnOk c.leave_at-left.result (LeavesIn r s x.n) × IfErr c.leave_at-left.result (λ y. (why : RoomRefusal) × (y ≡ ByRoom why) × LeaveFailsIn r s x.n why)
there c x is r room = let t = c.leave_at-left.ensures.connection.there x is r room in (t.0, t.2, t.3, t.5.1, t.5.2)

room : (c : goal.After-gather) → RoomOf None (refusal_in c.leave_at-left.result) leave_event (connection_at (old c).connections c.args.number) (old c) (new c)
room c =
    leave-room c.args.number (old c) (new c) c.self.invariant.stood.0 c.self.invariant.stood.1 c.leave_at-left.result (connection_at c.self.inside.connections c.args.number) refl c.leave_at-left.ensures.connection.absent refl
    (there c)

-- each live connection was there
were : (c : goal.After-gather) (k : ℕ) → WasThere (connection_at (old c).connections k) (connection_at (new c).connections k)
were c = were-of (old c).connections (new c).connections c.args.number (connection_at (old c).connections c.args.number) refl (λ absent. (c.leave_at-left.ensures.connection.absent absent).2)
    (λ x there. (None, tt, gone c x there))

remember : (c : goal.After-gather) (w : World) → StandsFor (old c) w → Remembers (old c) (new c)
remember c w st =
    remembers (old c) (new c) w st refl (λ d e. still-gone-of None (refusal_in c.leave_at-left.result) leave_event (connection_at (old c).connections c.args.number) (old c) (new c) (room c) d) (were c)

turns : (c : goal.After-gather) (w : World) → StandsFor (old c) w → MatchResult c.leave_at-left.result (λ v. Turns (new c) w (Leave c.args.number) (Done)) (λ r. FailsGone (new c) w (Leave c.args.number) r)
turns c w st =
    let g = good (old c) w st in
    let at = recalled-connection LeaveOf (old c) (new c) w st c.args.number c.leave_at-left.result c.leave_at-left.ensures.connection in
    ended (old c) (new c) w (turn w (Leave c.args.number)).world st (remember c w st) (Leave c.args.number) (Want (turn w (Leave c.args.number)).answer) (λ v. Done) tt (good_next w (Leave c.args.number) tt g) c.leave_at-left.result
    (leave_result (recalled (old c) (old c) w) (recalled (old c) (new c) w) (connection_at c.self.inside.connections) (connection_at c.leave_at-left.new.connections) c.self.inside.arrivals w c.args.number (recalls (old c) w st) st.kept
    c.leave_at-left.result (connection_at c.self.inside.connections c.args.number) refl at.absent
    (λ x is. let t = gone c x is in (t.here, t.others)) (λ x is r room. let t = at.there x is r room in (t.0, t.2, t.3, t.5.1, t.5.2)))

still_stood : (c : goal.After-gather) → Stood (new c)
still_stood c =
    let w = c.self.invariant.stood.0 in
    stood (new c) w (turn w (Leave c.args.number)).world (Leave c.args.number) (Want (turn w (Leave c.args.number)).answer) (λ v. Done) c.leave_at-left.result (turns c w c.self.invariant.stood.1)
    (keeps-outboxes (old c) (new c) (grows-of None (refusal_in c.leave_at-left.result) leave_event (connection_at (old c).connections c.args.number) (old c) (new c) (room c))
    (were c) c.self.invariant.stood.2)

named : (c : goal.After-gather) → Named c.leave_at-left.new.concerned (old c) (new c)
named c =
    named-left None (refusal_in c.leave_at-left.result) leave_event c.args.number c.leave_at-left.new.effects.told.items c.self.inside.concerned c.leave_at-left.new.concerned (old c) (new c) (connection_at (old c).connections c.args.number) refl (room c)
    c.leave_at-left.ensures.concerned refl (λ absent. (c.leave_at-left.ensures.connection.absent absent).2) (gone c)
    (λ x is. moves-by x.conference (old c) (new c) (λ r room. let t = there c x is r room in (t.0, t.1, leave-went r t.0 x.n c.leave_at-left.result t.3 t.4)))
    (still_stood c) c.self.invariant.stood.2 c.self.invariant.attached c.self.invariant.known

pub invariant_of-self : goal.invariant_of-self
invariant_of-self c = record { stood = still_stood c; attached = (named c).attached; known = (named c).known }

pub returns-clause-changed : goal.returns-clause-changed
returns-clause-changed c =
    subst (λ h. Shows h (new c)) c.self.view_is (shows-of None (refusal_in c.leave_at-left.result) leave_event (old c) (new c) (connection_at (old c).connections c.args.number) (room c) c.leave_at-left.ensures.changed)

pub returns-clause-concerned : goal.returns-clause-concerned
returns-clause-concerned c = subst (λ h. Concerns h (new c)) c.self.view_is (named c).concerns

has_gone : (c : goal.After-gather) (y : Option Connection) → connection_at (old c).connections c.args.number ≡ y → Puts (old c).connections (new c).connections c.args.number None
has_gone c None is = let same = (c.leave_at-left.ensures.connection.absent is).2 in record { here = same c.args.number ∙ is; others = λ k ne. same k }
has_gone c (Some x) is = gone c x is

pub returns-clause-gone : goal.returns-clause-gone
returns-clause-gone c = subst (λ h. Puts h.connections (new c).connections c.args.number None) c.self.view_is (has_gone c (connection_at (old c).connections c.args.number) refl)

pub returns-clause-next : goal.returns-clause-next
returns-clause-next c = λ w st. turns c w (subst (λ h. StandsFor h w) (sym c.self.view_is) st)

pub returns-clause-room : goal.returns-clause-room
returns-clause-room c = subst (λ h. RoomOf None (refusal_in c.leave_at-left.result) leave_event (connection_at h.connections c.args.number) h (new c)) c.self.view_is (room c)

pub returns-clause-left : goal.returns-clause-left
returns-clause-left c =
    subst (λ h. IfErr c.leave_at-left.result (LeftLeaving c.args.number (connection_at h.connections c.args.number) h (new c))) c.self.view_is
    (left-leave c.args.number (old c) (new c) refl c.self.invariant.stood.0 c.self.invariant.stood.1 c.leave_at-left.result (connection_at c.self.inside.connections c.args.number) refl c.leave_at-left.ensures.connection.absent
    (gone c) (λ x is r room. let t = there c x is r room in (t.0, t.1, t.2, t.4)))

pub returns-clause-gathered : goal.returns-clause-gathered
returns-clause-gathered c =
    subst (λ h. Gathers h (new c)) c.self.view_is
    (gathers-of None (refusal_in c.leave_at-left.result) leave_event (connection_at (old c).connections c.args.number) (old c) (new c) c.before_of-before.result (room c)
    (λ x is r room. let t = there c x is r room in (t.0, t.1, leave-went r t.0 x.n c.leave_at-left.result t.3 t.4))
    (shows-of None (refusal_in c.leave_at-left.result) leave_event (old c) (new c) (connection_at (old c).connections c.args.number) (room c) c.leave_at-left.ensures.changed)
    c.before_of-before.ensures.before c.gather.ensures.next)
