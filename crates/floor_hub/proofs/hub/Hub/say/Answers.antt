use Rattle.floor_hub.specs.Gathers.{Gathers}
use Rattle.floor_hub.proofs.WentOn.{gathers-one}
use Rattle.floor_hub.specs.Shown.{Shows}
use Rattle.floor_hub.proofs.Handing.{shows-at}
use Rattle.floor_hub.proofs.Saying.{said, said-ended, said-is, said-left, said-room, said-went}
use Rattle.std.proofs.Common.{◌≡◌, refl, sym, subst, Some}
use Rattle.std.specs.Prelude.{IfErr, IfOk, MatchResult}
use Rattle.floor_room.specs.Room.{Room}
use Rattle.floor_hub.specs.declared.step.Step.TheVariants.{Say}
use Rattle.floor_hub.specs.declared.step.Answer.TheVariants.{Said}
use Rattle.floor_hub.specs.Connections.{StayLive, connection_at}
use Rattle.floor_hub.specs.Hub.{Hub, is_forgotten, room_at}
use Rattle.floor_hub.specs.Left.{LeftAt}
use Rattle.floor_hub.specs.Rooms.{OneRoom, by_broken, refusal_in, say_event}
use Rattle.floor_hub.specs.StandsFor.{StandsFor, Stood}
use Rattle.floor_hub.specs.Calls.{IsWant, Fails, Turns}
use Rattle.floor_hub.specs.World.{turn, World, answer_said}
use Rattle.floor_hub.proofs.Closing.{ended, good, stood}
use Rattle.floor_hub.proofs.Outboxes.{grows-one, keeps-outboxes, were-same}
use Rattle.floor_hub.proofs.Recalling.{Remembers, recalled, recalled-room, recalls, remembers, still-gone}
use Rattle.floor_hub.specs.steps.Serving.{SaidIn}
use Rattle.floor_hub.proofs.hub.Hub.say.Goals as goal
use Rattle.floor_hub.proofs.Attaching.{place-same}
use Rattle.floor_hub.proofs.Naming.{Named, moves-by, named-at}
use Rattle.floor_hub.specs.Concerned.{Concerns}

abbrev old : goal.After-gather → Hub
old c = record { rooms = c.self.inside.rooms.entries; connections = c.self.inside.connections; arrivals = c.self.inside.arrivals; concerned = c.self.inside.concerned.numbers; changed = c.self.inside.effects.changed.items; forgotten = c.self.inside.forgotten.keys; gathered = c.self.inside.gathered }

abbrev new : goal.After-gather → Hub
new c = record { rooms = c.say_at-said.new.rooms.entries; connections = c.self.inside.connections; arrivals = c.self.inside.arrivals; concerned = c.say_at-said.new.concerned.numbers; changed = c.say_at-said.new.effects.changed.items; forgotten = c.self.inside.forgotten.keys; gathered = c.gather.new.self }

room : (c : goal.After-gather) → OneRoom by_broken (refusal_in c.say_at-said.result) (say_event c.args.user c.args.message.now) c.args.conference (old c) (new c)
room c =
    said-room c.args.conference c.args.user c.args.message.now (old c) (new c) (is_forgotten (old c) c.args.conference) c.say_at-said.result (room_at (old c) c.args.conference) refl
    c.say_at-said.ensures.room.absent c.say_at-said.ensures.room.there

remember : (c : goal.After-gather) (w : World) → StandsFor (old c) w → Remembers (old c) (new c)
remember c w st =
    remembers (old c) (new c) w st refl (λ d e. still-gone by_broken (refusal_in c.say_at-said.result) (say_event c.args.user c.args.message.now) c.args.conference (old c) (new c) (room c) d)
    (were-same (old c).connections (new c).connections (λ k. refl))

turns : (c : goal.After-gather) (w : World) → StandsFor (old c) w → MatchResult c.say_at-said.result (λ v. Turns (new c) w (Say c.args.conference c.args.user c.args.message.now) (Said v)) (λ r. Fails (new c) w (Say c.args.conference c.args.user c.args.message.now) r)
turns c w st =
    let at = recalled-room (SaidIn c.args.user c.args.message.now) (old c) (new c) w st c.args.conference c.say_at-said.result (said-ended c.args.user c.args.message.now) c.say_at-said.ensures.room in
    ended (old c) (new c) w w st (remember c w st) (Say c.args.conference c.args.user c.args.message.now) (IsWant (turn w (Say c.args.conference c.args.user c.args.message.now)).answer) (λ v. Said v) tt (good (old c) w st) c.say_at-said.result
    (said (recalled (old c) (old c) w) (recalled (old c) (new c) w) (connection_at c.self.inside.connections) c.self.inside.arrivals w c.args.conference c.args.user c.args.message.now (recalls (old c) w st)
    c.say_at-said.result (recalled (old c) (old c) w c.args.conference) refl at.absent at.there)

still_stood : (c : goal.After-gather) → Stood (new c)
still_stood c =
    let w = c.self.invariant.stood.0 in
    stood (new c) w w (Say c.args.conference c.args.user c.args.message.now) (IsWant (turn w (Say c.args.conference c.args.user c.args.message.now)).answer) (λ v. Said v) c.say_at-said.result (turns c w c.self.invariant.stood.1)
    (keeps-outboxes (old c) (new c) (grows-one by_broken (refusal_in c.say_at-said.result) (say_event c.args.user c.args.message.now) c.args.conference (old c) (new c) (room c))
    (were-same (old c).connections (new c).connections (λ k. refl)) c.self.invariant.stood.2)

named : (c : goal.After-gather) → Named c.say_at-said.new.concerned (old c) (new c)
named c =
    named-at by_broken (refusal_in c.say_at-said.result) (say_event c.args.user c.args.message.now) c.args.conference c.say_at-said.new.effects.told.items c.self.inside.concerned c.say_at-said.new.concerned (old c) (new c) (room c)
    c.say_at-said.ensures.concerned refl (λ k. place-same (connection_at (old c).connections k) (connection_at (new c).connections k) refl)
    (moves-by c.args.conference (old c) (new c) (λ r is. let t = c.say_at-said.ensures.room.there r is in (t.0, t.1, said-went c.args.user c.args.message.now r t.0 c.say_at-said.result t.3)))
    (still_stood c) c.self.invariant.attached c.self.invariant.known

pub invariant_of-self : goal.invariant_of-self
invariant_of-self c = record { stood = still_stood c; attached = (named c).attached; known = (named c).known }

pub returns-clause-changed : goal.returns-clause-changed
returns-clause-changed c =
    subst (λ h. Shows h (new c)) c.self.view_is
    (shows-at by_broken (refusal_in c.say_at-said.result) (say_event c.args.user c.args.message.now) c.args.conference (old c) (new c) (room c) c.say_at-said.ensures.changed)

pub returns-clause-concerned : goal.returns-clause-concerned
returns-clause-concerned c = subst (λ h. Concerns h (new c)) c.self.view_is (named c).concerns

pub returns-clause-connections : goal.returns-clause-connections
returns-clause-connections c = subst (λ h. StayLive h.connections (new c).connections) c.self.view_is (λ k. place-same (connection_at (old c).connections k) (connection_at (new c).connections k) refl)

pub returns-clause-next : goal.returns-clause-next
returns-clause-next c = λ w st. turns c w (subst (λ h. StandsFor h w) (sym c.self.view_is) st)

pub returns-clause-room : goal.returns-clause-room
returns-clause-room c = subst (λ h. OneRoom by_broken (refusal_in c.say_at-said.result) (say_event c.args.user c.args.message.now) c.args.conference h (new c)) c.self.view_is (room c)

pub returns-clause-said : goal.returns-clause-said
returns-clause-said c =
    subst (λ (h : Hub). IfOk c.say_at-said.result (λ v. (r : Room) × (room_at h c.args.conference ≡ Some r) × (v ≡ answer_said r.ledger c.args.user c.args.message.now))) c.self.view_is
    (said-is c.args.conference c.args.user c.args.message.now (old c) (new c) (is_forgotten (old c) c.args.conference) c.say_at-said.result (room_at (old c) c.args.conference) refl c.say_at-said.ensures.room.absent c.say_at-said.ensures.room.there)

pub returns-clause-left : goal.returns-clause-left
returns-clause-left c =
    subst (λ h. IfErr c.say_at-said.result (LeftAt (say_event c.args.user c.args.message.now) c.args.conference h (new c))) c.self.view_is
    (said-left c.args.conference c.args.user c.args.message.now (old c) (new c) (is_forgotten (old c) c.args.conference) refl c.say_at-said.result (room_at (old c) c.args.conference) refl
    c.say_at-said.ensures.room.absent c.say_at-said.ensures.room.there (λ k. refl))

pub returns-clause-gathered : goal.returns-clause-gathered
returns-clause-gathered c =
    subst (λ h. Gathers h (new c)) c.self.view_is
    (gathers-one by_broken (refusal_in c.say_at-said.result) (say_event c.args.user c.args.message.now) c.args.conference (old c) (new c) c.before-before.result (room c)
    (λ r is. let t = c.say_at-said.ensures.room.there r is in (t.0, t.1, said-went c.args.user c.args.message.now r t.0 c.say_at-said.result t.3))
    (shows-at by_broken (refusal_in c.say_at-said.result) (say_event c.args.user c.args.message.now) c.args.conference (old c) (new c) (room c) c.say_at-said.ensures.changed)
    c.before-before.ensures.before c.gather.ensures.next)
