use Rattle.floor_hub.specs.Gathers.{Gathers}
use Rattle.floor_hub.proofs.WentOn.{gathers-of}
use Rattle.floor_hub.specs.Shown.{Shows}
use Rattle.floor_hub.proofs.Handing.{shows-of}
use Rattle.floor_hub.proofs.Attending.{serve_result}
use Rattle.floor_hub.proofs.Left.{left-serve}
use Rattle.floor_hub.proofs.RoomSteps.{serve-room}
use Rattle.std.proofs.Common.{◌≡◌, ℕ, List, Some, refl, sym, ◌∙◌, subst}
use Rattle.std.specs.Prelude.{IfErr, MatchResult, Option}
use Rattle.floor_hub.specs.declared.connection.Connection.{Connection}
use Rattle.floor_hub.specs.declared.step.Step.TheVariants.{Serve}
use Rattle.floor_hub.specs.Connections.{Puts, SamePlace, StayLive, connection_at}
use Rattle.floor_hub.specs.Hub.{Hub, room_at}
use Rattle.floor_hub.specs.Left.{LeftServing}
use Rattle.floor_hub.specs.Rooms.{RoomOf, by_broken, refusal_in, serve_event}
use Rattle.floor_hub.specs.StandsFor.{StandsFor, Stood}
use Rattle.floor_hub.specs.Calls.{IsWant, Fails, Turns, answer_of}
use Rattle.floor_hub.specs.World.{turn, World}
use Rattle.floor_hub.proofs.Closing.{ended, good, stood}
use Rattle.floor_hub.proofs.Outboxes.{WasThere, grows-of, keeps-outboxes, outbox-room, were-of}
use Rattle.floor_hub.proofs.Recalling.{Remembers, recalled, recalled-connection, recalls, remembers, still-gone-of}
use Rattle.floor_hub.specs.steps.Serving.{ServeOf}
use Rattle.floor_hub.proofs.hub.Hub.serve.Goals as goal
use Rattle.floor_hub.proofs.Attaching.{places-of}
use Rattle.floor_hub.proofs.Naming.{Named, moves-by, named-of-one}
use Rattle.floor_hub.proofs.Moving.{served-went}
use Rattle.floor_hub.specs.Concerned.{Concerns}

abbrev old : goal.After-gather → Hub
old c = record { rooms = c.self.inside.rooms.entries; connections = c.self.inside.connections; arrivals = c.self.inside.arrivals; concerned = c.self.inside.concerned.numbers; changed = c.self.inside.effects.changed.items; forgotten = c.self.inside.forgotten.keys; gathered = c.self.inside.gathered }

abbrev new : goal.After-gather → Hub
new c = record { rooms = c.serve_at-served.new.rooms.entries; connections = c.serve_at-served.new.connections; arrivals = c.self.inside.arrivals; concerned = c.serve_at-served.new.concerned.numbers; changed = c.serve_at-served.new.effects.changed.items; forgotten = c.self.inside.forgotten.keys; gathered = c.gather.new.self }

-- what stands under the number afterwards
served : (c : goal.After-gather) (x : Connection) (y : Option Connection) (rest : List ℕ) → Puts (old c).connections (new c).connections c.args.number y →
    y ≡ Some (record { conference = x.conference; n = x.n; held = rest }) →
    Puts (old c).connections (new c).connections c.args.number (Some (record { conference = x.conference; n = x.n; held = rest }))
served c x y rest puts is = subst (Puts (old c).connections (new c).connections c.args.number) is puts

room : (c : goal.After-gather) → RoomOf by_broken (refusal_in c.serve_at-served.result) serve_event (connection_at (old c).connections c.args.number) (old c) (new c)
room c =
    serve-room c.args.number (old c) (new c) c.self.invariant.stood.0 c.self.invariant.stood.1 c.serve_at-served.result (connection_at c.self.inside.connections c.args.number) refl c.serve_at-served.ensures.connection.absent refl
    (λ x is r room. let t = c.serve_at-served.ensures.connection.there x is r room in (t.0, t.5.0, t.2, t.3, t.5.2))

-- each live connection was there
were : (c : goal.After-gather) (k : ℕ) → WasThere (connection_at (old c).connections k) (connection_at (new c).connections k)
were c = were-of (old c).connections (new c).connections c.args.number (connection_at (old c).connections c.args.number) refl (λ none. (c.serve_at-served.ensures.connection.absent none).2)
    (λ x there.
    let r = outbox-room (room_at (old c) x.conference) x.n (c.self.invariant.stood.2 c.args.number x there) in
    let t = c.serve_at-served.ensures.connection.there x there r.0 r.1 in
    (Some (record { conference = x.conference; n = x.n; held = t.5.0 }), (refl, refl), served c x t.1 t.5.0 t.4 t.5.1))

remember : (c : goal.After-gather) (w : World) → StandsFor (old c) w → Remembers (old c) (new c)
remember c w st =
    remembers (old c) (new c) w st refl (λ d e. still-gone-of by_broken (refusal_in c.serve_at-served.result) serve_event (connection_at (old c).connections c.args.number) (old c) (new c) (room c) d) (were c)

turns : (c : goal.After-gather) (w : World) → StandsFor (old c) w → MatchResult c.serve_at-served.result (λ v. Turns (new c) w (Serve c.args.number) (answer_of v)) (λ r. Fails (new c) w (Serve c.args.number) r)
turns c w st =
    let at = recalled-connection ServeOf (old c) (new c) w st c.args.number c.serve_at-served.result c.serve_at-served.ensures.connection in
    ended (old c) (new c) w w st (remember c w st) (Serve c.args.number) (IsWant (turn w (Serve c.args.number)).answer) (λ v. answer_of v) tt (good (old c) w st) c.serve_at-served.result
    (serve_result (recalled (old c) (old c) w) (recalled (old c) (new c) w) (connection_at c.self.inside.connections) (connection_at c.serve_at-served.new.connections) c.self.inside.arrivals w c.args.number (recalls (old c) w st) st.kept
    c.serve_at-served.result (connection_at c.self.inside.connections c.args.number) refl at.absent
    (λ x is r room. let t = at.there x is r room in (t.0, t.5.0, t.2, t.3, t.4.here ∙ t.5.1, t.4.others, t.5.2)))

still_stood : (c : goal.After-gather) → Stood (new c)
still_stood c =
    let w = c.self.invariant.stood.0 in
    stood (new c) w w (Serve c.args.number) (IsWant (turn w (Serve c.args.number)).answer) (λ v. answer_of v) c.serve_at-served.result (turns c w c.self.invariant.stood.1)
    (keeps-outboxes (old c) (new c) (grows-of by_broken (refusal_in c.serve_at-served.result) serve_event (connection_at (old c).connections c.args.number) (old c) (new c) (room c))
    (were c) c.self.invariant.stood.2)

-- each connection stays where it is
places : (c : goal.After-gather) (k : ℕ) → SamePlace (connection_at (old c).connections k) (connection_at (new c).connections k)
places c = places-of (old c).connections (new c).connections c.args.number (connection_at (old c).connections c.args.number) refl (λ none. (c.serve_at-served.ensures.connection.absent none).2)
    (λ x there.
    let r = outbox-room (room_at (old c) x.conference) x.n (c.self.invariant.stood.2 c.args.number x there) in
    let t = c.serve_at-served.ensures.connection.there x there r.0 r.1 in
    (record { conference = x.conference; n = x.n; held = t.5.0 }, refl, refl, served c x t.1 t.5.0 t.4 t.5.1))

named : (c : goal.After-gather) → Named c.serve_at-served.new.concerned (old c) (new c)
named c =
    named-of-one by_broken (refusal_in c.serve_at-served.result) serve_event c.serve_at-served.new.effects.told.items c.self.inside.concerned c.serve_at-served.new.concerned (old c) (new c) (connection_at (old c).connections c.args.number) (room c)
    c.serve_at-served.ensures.concerned refl (places c)
    (λ x there. moves-by x.conference (old c) (new c) (λ r room. let t = c.serve_at-served.ensures.connection.there x there r room in (t.0, t.2, served-went r t.0 x.n x.held t.5.0 c.serve_at-served.result t.5.2)))
    (still_stood c) c.self.invariant.attached c.self.invariant.known

pub invariant_of-self : goal.invariant_of-self
invariant_of-self c = record { stood = still_stood c; attached = (named c).attached; known = (named c).known }

pub returns-clause-changed : goal.returns-clause-changed
returns-clause-changed c =
    subst (λ h. Shows h (new c)) c.self.view_is (shows-of by_broken (refusal_in c.serve_at-served.result) serve_event (old c) (new c) (connection_at (old c).connections c.args.number) (room c) c.serve_at-served.ensures.changed)

pub returns-clause-concerned : goal.returns-clause-concerned
returns-clause-concerned c = subst (λ h. Concerns h (new c)) c.self.view_is (named c).concerns

pub returns-clause-connections : goal.returns-clause-connections
returns-clause-connections c = subst (λ h. StayLive h.connections (new c).connections) c.self.view_is (places c)

pub returns-clause-next : goal.returns-clause-next
returns-clause-next c = λ w st. turns c w (subst (λ h. StandsFor h w) (sym c.self.view_is) st)

pub returns-clause-room : goal.returns-clause-room
returns-clause-room c = subst (λ h. RoomOf by_broken (refusal_in c.serve_at-served.result) serve_event (connection_at h.connections c.args.number) h (new c)) c.self.view_is (room c)

pub returns-clause-left : goal.returns-clause-left
returns-clause-left c =
    subst (λ h. IfErr c.serve_at-served.result (LeftServing c.args.number (connection_at h.connections c.args.number) h (new c))) c.self.view_is
    (left-serve c.args.number (old c) (new c) refl c.self.invariant.stood.0 c.self.invariant.stood.1 c.serve_at-served.result (connection_at c.self.inside.connections c.args.number) refl c.serve_at-served.ensures.connection.absent
    (λ x is r room. let t = c.serve_at-served.ensures.connection.there x is r room in (t.0, t.5.0, t.2, t.3, served c x t.1 t.5.0 t.4 t.5.1, t.5.2)))

pub returns-clause-gathered : goal.returns-clause-gathered
returns-clause-gathered c =
    subst (λ h. Gathers h (new c)) c.self.view_is
    (gathers-of by_broken (refusal_in c.serve_at-served.result) serve_event (connection_at (old c).connections c.args.number) (old c) (new c) c.before_of-before.result (room c)
    (λ x there r room. let t = c.serve_at-served.ensures.connection.there x there r room in (t.0, t.2, served-went r t.0 x.n x.held t.5.0 c.serve_at-served.result t.5.2))
    (shows-of by_broken (refusal_in c.serve_at-served.result) serve_event (old c) (new c) (connection_at (old c).connections c.args.number) (room c) c.serve_at-served.ensures.changed)
    c.before_of-before.ensures.before c.gather.ensures.next)
