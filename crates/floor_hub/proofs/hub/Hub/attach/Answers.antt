use Rattle.floor_hub.specs.Gathers.{Gathers}
use Rattle.floor_hub.proofs.WentOn.{gathers-one}
use Rattle.floor_hub.specs.Shown.{Shows}
use Rattle.floor_hub.proofs.Handing.{shows-at}
use Rattle.std.proofs.Common.{◌≡◌, ◌≢◌, ℕ, Bool, true, false, ◌+◌, ◌≤◌, [], Some, None, arith, length, refl, sym, subst}
use Rattle.std.specs.Prelude.{Ok, Err, Option, Result}
use Rattle.floor_hub.specs.declared.refusal.HubRefusal.{HubRefusal}
use Rattle.floor_hub.specs.declared.step.Step.TheVariants.{Attach}
use Rattle.floor_hub.specs.declared.step.Answer.TheVariants.{Attached}
use Rattle.floor_hub.specs.Connections.{connection_at}
use Rattle.floor_hub.specs.declared.connection.Connection.{Connection}
use Rattle.floor_hub.specs.Hub.{Hub, is_forgotten, room_at}
use Rattle.floor_hub.specs.Left.{LeftAt}
use Rattle.floor_hub.specs.Rooms.{Joins, OneRoom, attach_event, by_broken, ended_or_none}
use Rattle.floor_hub.specs.StandsFor.{HasOutbox, HaveOutboxes, StandsFor, Stood}
use Rattle.floor_hub.specs.Calls.{IsWant, Fails, Turns}
use Rattle.floor_hub.specs.World.{turn, World}
use Rattle.floor_hub.proofs.Arriving.{attach_result}
use Rattle.floor_hub.proofs.Closing.{ended, good, stood}
use Rattle.floor_hub.proofs.Left.{left-attach}
use Rattle.floor_hub.proofs.Numbers.{places_fit}
use Rattle.floor_hub.proofs.RoomSteps.{attach-room}
use Rattle.floor_room.specs.Ledger.{conference_of}
use Rattle.floor_room.specs.Room.{Room}
use Rattle.floor_hub.proofs.Outboxes.{grows-one, has-joined, keeps-outboxes, were-same}
use Rattle.floor_hub.proofs.Forgetting.{attach-ended}
use Rattle.floor_hub.proofs.Recalling.{Remembers, forgotten-gone, recalled, recalled-room, recalls, remembers, remembers-joined, still-gone}
use Rattle.floor_hub.specs.steps.Serving.{AttachIn}
use Rattle.floor_hub.proofs.hub.Hub.attach.Goals as goal
use Rattle.floor_hub.proofs.Attaching.{last-untaken, next-is-free, place-same, within}
use Rattle.floor_hub.specs.steps.Attached.{live_in}
use Rattle.floor_hub.proofs.Naming.{Named, moves-by, named-at, named-attached}
use Rattle.floor_hub.proofs.Moving.{attach-went, joined-went}
use Rattle.floor_hub.specs.Concerned.{Concerns}

pub overflow_add-number : goal.overflow_add-number
overflow_add-number c =
    let w = c.self.invariant.stood.0 in
    let st = c.self.invariant.stood.1 in
    omega (arith, st.stands.count, places_fit w st.kept st.numbered)

pub attach_at-joined-requires : goal.attach_at-joined-requires
attach_at-joined-requires c =
    let h : Hub = record { rooms = c.self.inside.rooms.entries; connections = c.self.inside.connections; arrivals = c.self.inside.arrivals; concerned = c.self.inside.concerned.numbers; changed = c.self.inside.effects.changed.items; forgotten = c.self.inside.forgotten.keys; gathered = c.self.inside.gathered } in
    record {
      fresh = next-is-free h c.self.invariant.stood.0 c.self.invariant.stood.1;
      within = λ r is. within h c.self.invariant.stood.0 (live_in c.self.inside.concerned) c.self.invariant.stood.1 c.self.invariant.stood.2 c.self.invariant.attached c.args.conference r is;
    }

abbrev old_ok : goal.After-self-1 → Hub
old_ok c = record { rooms = c.self.inside.rooms.entries; connections = c.self.inside.connections; arrivals = c.self.inside.arrivals; concerned = c.self.inside.concerned.numbers; changed = c.self.inside.effects.changed.items; forgotten = c.self.inside.forgotten.keys; gathered = c.self.inside.gathered }

abbrev new_ok : goal.After-self-1 → Hub
new_ok c = record { rooms = c.attach_at-joined.new.rooms.entries; connections = c.attach_at-joined.new.connections; arrivals = c.self.inside.arrivals + 1; concerned = c.attach_at-joined.new.concerned.numbers; changed = c.attach_at-joined.new.effects.changed.items; forgotten = c.self.inside.forgotten.keys; gathered = c.gather.new.self }

room_ok : (c : goal.After-self-1) → OneRoom by_broken None (attach_event c.args.user) c.args.conference (old_ok c) (new_ok c)
room_ok c =
    attach-room c.args.conference c.args.user (old_ok c) (new_ok c) (is_forgotten (old_ok c) c.args.conference) (Ok tt) (room_at (old_ok c) c.args.conference) refl c.in-Ok.ensures.room.absent
    (λ r is. let t = c.in-Ok.ensures.room.there r is in (t.0, t.1, t.2, t.3.0.0, tt))

ok_err : (b : Bool) → ◌≡◌ {A = Result (Unit {0}) HubRefusal} (Ok tt) (Err (ended_or_none b)) → ⊥
ok_err b e = cc

-- who has joined is of a conference that wasn't forgotten
fresh : (c : goal.After-self-1) (w : World) → StandsFor (old_ok c) w → is_forgotten (old_ok c) c.args.conference ≡ false
fresh c w st = by (is_forgotten (old_ok c) c.args.conference) refl
  where
    by : (b : Bool) → is_forgotten (old_ok c) c.args.conference ≡ b → is_forgotten (old_ok c) c.args.conference ≡ false
    by false e = e
    by true e = absurd (ok_err (is_forgotten (old_ok c) c.args.conference) (c.in-Ok.ensures.room.absent (forgotten-gone (old_ok c) w st c.args.conference e).0).0)

remember_ok : (c : goal.After-self-1) (w : World) → StandsFor (old_ok c) w → Remembers (old_ok c) (new_ok c)
remember_ok c w st = by (room_at (old_ok c) c.args.conference) refl
  where
    by : (y : Option Room) → room_at (old_ok c) c.args.conference ≡ y → Remembers (old_ok c) (new_ok c)
    by None is = absurd (ok_err (is_forgotten (old_ok c) c.args.conference) (c.in-Ok.ensures.room.absent is).0)
    by (Some r) is =
        remembers-joined (old_ok c) (new_ok c) w st refl (λ d e. still-gone by_broken None (attach_event c.args.user) c.args.conference (old_ok c) (new_ok c) (room_ok c) d)
        (c.self.inside.arrivals + 1) (record { conference = c.args.conference; n = length (conference_of r.ledger).members + 1; held = [] }) (c.in-Ok.ensures.room.there r is).3.0.1 (fresh c w st)

turns_ok : (c : goal.After-self-1) (w : World) → StandsFor (old_ok c) w → Turns (new_ok c) w (Attach c.args.conference c.args.user) (Attached (c.self.inside.arrivals + 1))
turns_ok c w st =
    let at = recalled-room (AttachIn c.args.conference c.args.user (c.self.inside.arrivals + 1) c.self.inside.connections c.attach_at-joined.new.connections) (old_ok c) (new_ok c) w st c.args.conference (Ok tt)
    (attach-ended c.args.conference c.args.user (c.self.inside.arrivals + 1) c.self.inside.connections c.attach_at-joined.new.connections) c.in-Ok.ensures.room in
    ended {T = Unit {0}} (old_ok c) (new_ok c) w w st (remember_ok c w st) (Attach c.args.conference c.args.user) (IsWant (turn w (Attach c.args.conference c.args.user)).answer) (λ v. Attached (c.self.inside.arrivals + 1)) tt (good (old_ok c) w st) (Ok tt)
    (attach_result (recalled (old_ok c) (old_ok c) w) (recalled (old_ok c) (new_ok c) w) (connection_at c.self.inside.connections) (connection_at c.attach_at-joined.new.connections) c.self.inside.arrivals w
    c.args.conference c.args.user (recalls (old_ok c) w st) st.kept (Ok tt) (recalled (old_ok c) (old_ok c) w c.args.conference) refl at.absent c.in-Ok.ensures.left
    (λ r is. let t = at.there r is in (t.0, t.1, t.2, (t.3.0.0, (t.3.0.1.here, t.3.0.1.others)), tt)))

-- who has joined has an outbox, the last of its room
has_outboxes : (c : goal.After-self-1) (y : Option Room) → room_at (old_ok c) c.args.conference ≡ y → HaveOutboxes (new_ok c)
has_outboxes c None is = absurd (ok_err (is_forgotten (old_ok c) c.args.conference) (c.in-Ok.ensures.room.absent is).0)
has_outboxes c (Some r) is =
    let t = c.in-Ok.ensures.room.there r is in
    let n : ℕ = length (conference_of r.ledger).members + 1 in
    let first : 1 ≤ n = omega arith in
    let last : n ≤ length t.0.outboxes = omega (arith, t.3.0.2) in
    has-joined (old_ok c) (new_ok c) (c.self.inside.arrivals + 1) (record { conference = c.args.conference; n = n; held = [] })
    (grows-one by_broken None (attach_event c.args.user) c.args.conference (old_ok c) (new_ok c) (room_ok c)) t.3.0.1 (subst (λ (z : Option Room). HasOutbox z n) (sym t.1) (first, last)) c.self.invariant.stood.2

still_stood_ok : (c : goal.After-self-1) → Stood (new_ok c)
still_stood_ok c =
    let w = c.self.invariant.stood.0 in
    stood {T = Unit {0}} (new_ok c) w w (Attach c.args.conference c.args.user) (IsWant (turn w (Attach c.args.conference c.args.user)).answer) (λ v. Attached (c.self.inside.arrivals + 1)) (Ok tt) (turns_ok c w c.self.invariant.stood.1)
    (has_outboxes c (room_at (old_ok c) c.args.conference) refl)

there : (c : goal.After-self-1) → room_at (old_ok c) c.args.conference ≢ None
there c none = ok_err (is_forgotten (old_ok c) c.args.conference) (c.in-Ok.ensures.room.absent none).0

named_ok : (c : goal.After-self-1) → Named c.attach_at-joined.new.concerned (old_ok c) (new_ok c)
named_ok c =
    named-attached by_broken (attach_event c.args.user) c.self.invariant.stood.0 c.args.conference c.attach_at-joined.new.effects.told.items c.self.inside.concerned c.attach_at-joined.new.concerned (old_ok c) (new_ok c) c.self.invariant.stood.1 (room_ok c)
    c.in-Ok.ensures.concerned refl (λ r is. (c.in-Ok.ensures.room.there r is).3.0.1) (there c)
    (moves-by c.args.conference (old_ok c) (new_ok c) (λ r is. let t = c.in-Ok.ensures.room.there r is in (t.0, t.1, joined-went r t.0 c.args.user t.3.0.0)))
    (still_stood_ok c) c.self.invariant.attached c.self.invariant.known

pub invariant_of-self : goal.invariant_of-self
invariant_of-self c = record { stood = still_stood_ok c; attached = (named_ok c).attached; known = (named_ok c).known }

pub returns-in-Ok-clause-changed : goal.returns-in-Ok-clause-changed
returns-in-Ok-clause-changed c =
    subst (λ h. Shows h (new_ok c)) c.self.view_is (shows-at by_broken None (attach_event c.args.user) c.args.conference (old_ok c) (new_ok c) (room_ok c) c.in-Ok.ensures.changed)

pub returns-in-Ok-clause-concerned : goal.returns-in-Ok-clause-concerned
returns-in-Ok-clause-concerned c = subst (λ h. Concerns h (new_ok c)) c.self.view_is (named_ok c).concerns

joins : (c : goal.After-self-1) (y : Option Room) → room_at (old_ok c) c.args.conference ≡ y → Joins c.args.conference (c.self.inside.arrivals + 1) (old_ok c) (new_ok c)
joins c None is = absurd (there c is)
joins c (Some r) is =
    let t = c.in-Ok.ensures.room.there r is in
    record {
      connection = record { conference = c.args.conference; n = length (conference_of r.ledger).members + 1; held = [] };
      room = t.0;
      next = refl;
      fresh = next-is-free (old_ok c) c.self.invariant.stood.0 c.self.invariant.stood.1;
      put = t.3.0.1;
      place = refl;
      there = t.1;
      untaken = last-untaken r t.0 c.args.user (length (conference_of r.ledger).members) t.3.0.0 t.3.0.2;
    }

pub returns-in-Ok-clause-joined : goal.returns-in-Ok-clause-joined
returns-in-Ok-clause-joined c = subst (λ h. Joins c.args.conference (c.self.inside.arrivals + 1) h (new_ok c)) c.self.view_is (joins c (room_at (old_ok c) c.args.conference) refl)

pub returns-in-Ok-clause-next : goal.returns-in-Ok-clause-next
returns-in-Ok-clause-next c = λ w st. turns_ok c w (subst (λ h. StandsFor h w) (sym c.self.view_is) st)

pub returns-in-Ok-clause-room : goal.returns-in-Ok-clause-room
returns-in-Ok-clause-room c =
    subst (λ h. OneRoom by_broken None (attach_event c.args.user) c.args.conference h (new_ok c)) c.self.view_is (room_ok c)

-- the connection that was made
made : (c : goal.After-self-1) (y : Option Room) → room_at (old_ok c) c.args.conference ≡ y →
    (x : Connection) × (connection_at (new_ok c).connections (c.self.inside.arrivals + 1) ≡ Some x) × (x.conference ≡ c.args.conference)
made c None is = absurd (ok_err (is_forgotten (old_ok c) c.args.conference) (c.in-Ok.ensures.room.absent is).0)
made c (Some r) is =
    let t = c.in-Ok.ensures.room.there r is in
    (record { conference = c.args.conference; n = length (conference_of r.ledger).members + 1; held = [] }, t.3.0.1.here, refl)

pub returns-in-Ok-clause-found : goal.returns-in-Ok-clause-found
returns-in-Ok-clause-found c = made c (room_at (old_ok c) c.args.conference) refl

abbrev old_err : goal.In-Err → Hub
old_err c = record { rooms = c.self.inside.rooms.entries; connections = c.self.inside.connections; arrivals = c.self.inside.arrivals; concerned = c.self.inside.concerned.numbers; changed = c.self.inside.effects.changed.items; forgotten = c.self.inside.forgotten.keys; gathered = c.self.inside.gathered }

abbrev new_err : goal.In-Err → Hub
new_err c = record { rooms = c.attach_at-joined.new.rooms.entries; connections = c.attach_at-joined.new.connections; arrivals = c.self.inside.arrivals; concerned = c.attach_at-joined.new.concerned.numbers; changed = c.attach_at-joined.new.effects.changed.items; forgotten = c.self.inside.forgotten.keys; gathered = c.gather.new.self }

room_err : (c : goal.In-Err) → OneRoom by_broken (Some c.in-Err.refusal) (attach_event c.args.user) c.args.conference (old_err c) (new_err c)
room_err c =
    attach-room c.args.conference c.args.user (old_err c) (new_err c) (is_forgotten (old_err c) c.args.conference) (Err c.in-Err.refusal) (room_at (old_err c) c.args.conference) refl c.in-Err.ensures.room.absent
    (λ r is. let t = c.in-Err.ensures.room.there r is in (t.0, t.1, t.2, t.3.0, t.3.1))

remember_err : (c : goal.In-Err) (w : World) → StandsFor (old_err c) w → Remembers (old_err c) (new_err c)
remember_err c w st =
    remembers (old_err c) (new_err c) w st refl (λ d e. still-gone by_broken (Some c.in-Err.refusal) (attach_event c.args.user) c.args.conference (old_err c) (new_err c) (room_err c) d)
    (were-same (old_err c).connections (new_err c).connections c.in-Err.ensures.left)

turns_err : (c : goal.In-Err) (w : World) → StandsFor (old_err c) w → Fails (new_err c) w (Attach c.args.conference c.args.user) c.in-Err.refusal
turns_err c w st =
    let at = recalled-room (AttachIn c.args.conference c.args.user (c.self.inside.arrivals + 1) c.self.inside.connections c.attach_at-joined.new.connections) (old_err c) (new_err c) w st c.args.conference (Err c.in-Err.refusal)
    (attach-ended c.args.conference c.args.user (c.self.inside.arrivals + 1) c.self.inside.connections c.attach_at-joined.new.connections) c.in-Err.ensures.room in
    ended {T = Unit {0}} (old_err c) (new_err c) w w st (remember_err c w st) (Attach c.args.conference c.args.user) (IsWant (turn w (Attach c.args.conference c.args.user)).answer) (λ v. Attached (c.self.inside.arrivals + 1)) tt (good (old_err c) w st)
    (Err c.in-Err.refusal)
    (attach_result (recalled (old_err c) (old_err c) w) (recalled (old_err c) (new_err c) w) (connection_at c.self.inside.connections) (connection_at c.attach_at-joined.new.connections) c.self.inside.arrivals w
    c.args.conference c.args.user (recalls (old_err c) w st) st.kept (Err c.in-Err.refusal) (recalled (old_err c) (old_err c) w c.args.conference) refl at.absent c.in-Err.ensures.left
    (λ r is. let t = at.there r is in (t.0, t.1, t.2, t.3.0, t.3.1)))

still_stood_err : (c : goal.In-Err) → Stood (new_err c)
still_stood_err c =
    let w = c.self.invariant.stood.0 in
    stood {T = Unit {0}} (new_err c) w w (Attach c.args.conference c.args.user) (IsWant (turn w (Attach c.args.conference c.args.user)).answer) (λ v. Attached (c.self.inside.arrivals + 1)) (Err c.in-Err.refusal) (turns_err c w c.self.invariant.stood.1)
    (keeps-outboxes (old_err c) (new_err c) (grows-one by_broken (Some c.in-Err.refusal) (attach_event c.args.user) c.args.conference (old_err c) (new_err c) (room_err c))
    (were-same (old_err c).connections (new_err c).connections c.in-Err.ensures.left) c.self.invariant.stood.2)

named_err : (c : goal.In-Err) → Named c.attach_at-joined.new.concerned (old_err c) (new_err c)
named_err c =
    named-at by_broken (Some c.in-Err.refusal) (attach_event c.args.user) c.args.conference c.attach_at-joined.new.effects.told.items c.self.inside.concerned c.attach_at-joined.new.concerned (old_err c) (new_err c) (room_err c)
    c.in-Err.ensures.concerned refl (λ k. place-same (connection_at (old_err c).connections k) (connection_at (new_err c).connections k) (c.in-Err.ensures.left k))
    (moves-by c.args.conference (old_err c) (new_err c) (λ r is. let t = c.in-Err.ensures.room.there r is in (t.0, t.1, attach-went r t.0 c.args.user t.3.1.0 t.3.1.2)))
    (still_stood_err c) c.self.invariant.attached c.self.invariant.known

pub invariant_of-self-in-Err : goal.invariant_of-self-in-Err
invariant_of-self-in-Err c = record { stood = still_stood_err c; attached = (named_err c).attached; known = (named_err c).known }

pub returns-in-Err-clause-changed : goal.returns-in-Err-clause-changed
returns-in-Err-clause-changed c =
    subst (λ h. Shows h (new_err c)) c.self.view_is (shows-at by_broken (Some c.in-Err.refusal) (attach_event c.args.user) c.args.conference (old_err c) (new_err c) (room_err c) c.in-Err.ensures.changed)

pub returns-in-Err-clause-concerned : goal.returns-in-Err-clause-concerned
returns-in-Err-clause-concerned c = subst (λ h. Concerns h (new_err c)) c.self.view_is (named_err c).concerns

pub returns-in-Err-clause-next : goal.returns-in-Err-clause-next
returns-in-Err-clause-next c = λ w st. turns_err c w (subst (λ h. StandsFor h w) (sym c.self.view_is) st)

pub returns-in-Err-clause-room : goal.returns-in-Err-clause-room
returns-in-Err-clause-room c =
    subst (λ h. OneRoom by_broken (Some c.in-Err.refusal) (attach_event c.args.user) c.args.conference h (new_err c)) c.self.view_is (room_err c)

pub returns-in-Err-clause-left : goal.returns-in-Err-clause-left
returns-in-Err-clause-left c =
    subst (λ h. LeftAt (attach_event c.args.user) c.args.conference h (new_err c) c.in-Err.refusal) c.self.view_is
    (left-attach c.args.user c.args.conference (old_err c) (new_err c) (is_forgotten (old_err c) c.args.conference) c.in-Err.refusal refl (room_at (old_err c) c.args.conference) refl c.in-Err.ensures.room.absent
    (λ r is. let t = c.in-Err.ensures.room.there r is in (t.0, t.1, t.2, t.3.1)) c.in-Err.ensures.left)

pub returns-in-Ok-clause-gathered : goal.returns-in-Ok-clause-gathered
returns-in-Ok-clause-gathered c =
    subst (λ h. Gathers h (new_ok c)) c.self.view_is
    (gathers-one by_broken None (attach_event c.args.user) c.args.conference (old_ok c) (new_ok c) c.before-before.result (room_ok c)
    (λ r is. let t = c.in-Ok.ensures.room.there r is in (t.0, t.1, joined-went r t.0 c.args.user t.3.0.0))
    (shows-at by_broken None (attach_event c.args.user) c.args.conference (old_ok c) (new_ok c) (room_ok c) c.in-Ok.ensures.changed)
    c.before-before.ensures.before c.gather.ensures.next)

pub returns-in-Err-clause-gathered : goal.returns-in-Err-clause-gathered
returns-in-Err-clause-gathered c =
    subst (λ h. Gathers h (new_err c)) c.self.view_is
    (gathers-one by_broken (Some c.in-Err.refusal) (attach_event c.args.user) c.args.conference (old_err c) (new_err c) c.before-before.result (room_err c)
    (λ r is. let t = c.in-Err.ensures.room.there r is in (t.0, t.1, attach-went r t.0 c.args.user t.3.1.0 t.3.1.2))
    (shows-at by_broken (Some c.in-Err.refusal) (attach_event c.args.user) c.args.conference (old_err c) (new_err c) (room_err c) c.in-Err.ensures.changed)
    c.before-before.ensures.before c.gather.ensures.next)
