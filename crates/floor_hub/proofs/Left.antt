-- What a refused call has left.
use Rattle.std.proofs.Common.{map, take, ◌≢◌, ◌≡◌, inl, inr, ℕ, Bool, true, false, cond, List, [], ◌∷◌, length, refl, sym, ◌∙◌, ap, subst, append-nil, Some, None}
use Rattle.std.specs.Prelude.{◌||◌, Option, nat_eq, nat_le, not, Result, Ok, Err, IfErr, OnErr}
use Rattle.std.proofs.lemmas.Bool.{eqb-true}
use Rattle.std.proofs.lemmas.Option.{none-some}
use Rattle.floor_machine.specs.declared.event.Event.{Event}
use Rattle.floor_machine.specs.declared.event.Event.TheVariants.{Join, Message, Took, Leave}
use Rattle.floor_machine.specs.declared.machine.Refusal.TheVariants.{Broken, Ended, NoMember, NoUser, Full, NoRequest, Cut, BadCount, Memory, OutOfRange, DoubleUser, DoubleFloor, NoFloor, UnknownChair}
use Rattle.floor_machine.specs.Journal.{parcels_of}
use Rattle.floor_room.specs.declared.refusal.RoomRefusal.{RoomRefusal}
use Rattle.floor_room.specs.declared.refusal.RoomRefusal.TheVariants.{JournalFull, Refused as ByMachine}
use Rattle.floor_room.specs.Calls.{Left, told_by}
use Rattle.floor_machine.specs.Conference.{is_cut, is_live}
use Rattle.floor_room.specs.Ledger.{IsRefusedBy, closed, conference_of, refusal}
use Rattle.floor_room.specs.Room.{Room, broken_room}
use Rattle.floor_room.proofs.Ledgers.{opened}
use Rattle.floor_hub.specs.declared.connection.Connection.{Connection}
use Rattle.floor_hub.specs.declared.refusal.HubRefusal.{HubRefusal}
use Rattle.floor_hub.specs.declared.refusal.HubRefusal.TheVariants.{NoConnection, ByRoom}
use Rattle.floor_hub.specs.declared.step.Served.{Served}
use Rattle.floor_hub.specs.Concerned.{is_shut}
use Rattle.floor_hub.specs.Connections.{Puts, SameConnections, connection_at}
use Rattle.floor_hub.specs.Hub.{Hub, room_at}
use Rattle.floor_hub.specs.Left.{BreaksOff, IsAllowed, IsBrokenOff, IsUnbegun, LeftAt, LeftLeaving, LeftServing, LeftTaking}
use Rattle.floor_hub.specs.Rooms.{SameHub, attach_event, ended_or_none, leave_event, serve_event, took_event}
use Rattle.floor_hub.specs.StandsFor.{StandsFor}
use Rattle.floor_hub.specs.World.{World}
use Rattle.floor_hub.specs.steps.Serving.{AttachFailsIn, LeaveFailsIn, ServeFailsIn, ServedIn}
use Rattle.floor_hub.proofs.Attending.{by_memory, no_message_refusal, no_refusal}
use Rattle.floor_hub.proofs.Known.{connected-live}
use Rattle.floor_hub.proofs.Recalling.{here-now}
use Rattle.floor_hub.proofs.RoomSteps.{leaves-open, serves-first}
use Rattle.floor_hub.proofs.Wanting.{allowed}
use Rattle.floor_wire.specs.Message.{messages}

-- after want of memory the room is broken off
broken-off : (own : List Event) (r s : Room) (e : Event) → own ≡ e ∷ [] → Left r s e (ByMachine Memory) → IsBrokenOff own r s
broken-off own r s e is (inl off) = inl off
broken-off own r s e is (inr began) = inr (e, is, began)

-- that an attach failed, also behind its join, has left what the room's refusal leaves
attach-left : (r s : Room) (user : ℕ) (why : RoomRefusal) → AttachFailsIn r s user why → Left r s (Join user) why
attach-left r s user why (inl f) = f.1
attach-left r s user why (inr f) = subst (Left r s (Join user)) (sym f.0) (inr (record {
  lawful = f.1.1.lawful;
  put = parcels_of (conference_of r.ledger) (Join user);
  rest = [];
  all = sym (append-nil (parcels_of (conference_of r.ledger) (Join user)));
  told = told_by r (parcels_of (conference_of r.ledger) (Join user)) false;
  next = f.1.2 ∙ ap broken_room f.1.1.next;
}))

-- what the room has refused for want of memory it doesn't refuse otherwise
pub free : (r : Room) (e : Event) (why : RoomRefusal) → IsRefusedBy {T = Unit {0}} (refusal r.ledger e) (Err why) → why ≡ ByMachine Memory → refusal r.ledger e ≡ None
free r e why refused memory = allowed r.ledger e (subst (λ (y : RoomRefusal). IsRefusedBy {T = Unit {0}} (refusal r.ledger e) (Err y)) memory refused)

attach-allowed : (r s : Room) (user : ℕ) (why : RoomRefusal) → AttachFailsIn r s user why → why ≡ ByMachine Memory → refusal r.ledger (Join user) ≡ None
attach-allowed r s user why (inl f) memory = free r (Join user) why f.0 memory
attach-allowed r s user why (inr f) memory = f.1.1.allowed

pub err_is : {T : Type 0} (x y : HubRefusal) → ◌≡◌ {A = Result T HubRefusal} (Err x) (Err y) → x ≡ y
err_is x y e = cc

ok_err : {T : Type 0} (v : T) (x : HubRefusal) → ◌≡◌ {A = Result T HubRefusal} (Ok v) (Err x) → ⊥
ok_err v x e = cc

some_is : {A : Type 0} (y z : A) → ◌≡◌ {A = Option A} (Some y) (Some z) → y ≡ z
some_is y z e = cc

module _ (c : ℕ) (old new : Hub) (r s : Room) (was : room_at old c ≡ Some r) (now : room_at new c ≡ Some s)
    (others : (d : ℕ) → nat_eq c d ≡ false → room_at new d ≡ room_at old d) (arrivals : new.arrivals ≡ old.arrivals) where
  -- nothing has changed
  pub unchanged : s ≡ r → SameConnections old.connections new.connections → SameHub old new
  unchanged same connections = record { rooms = λ d. by d (nat_eq c d) refl; connections = connections; arrivals = arrivals }
    where
      by : (d : ℕ) (b : Bool) → nat_eq c d ≡ b → room_at new d ≡ room_at old d
      by d true e =
          ap (room_at new) (sym (eqb-true c d e)) ∙ now ∙ ap (λ (x : Room). Some x) same ∙ sym was ∙ ap (room_at old) (eqb-true c d e)
      by d false e = others d e

  breaks : (Is : List Event → Room → Room → Type 0) (own : Room → List Event) → IsAllowed (own r) r → Is (own r) r s → BreaksOff Is own c old new
  breaks Is own may broken = record { before = r; after = s; was = was; now = now; allowed = may; broken = broken; others = others; arrivals = arrivals }

  -- the room has refused the event
  pub left-room : (own : Room → List Event) (e : Event) (why : RoomRefusal) → own r ≡ e ∷ [] → (why ≡ ByMachine Memory → refusal r.ledger e ≡ None) → Left r s e why → SameConnections old.connections new.connections → LeftAt own c old new (ByRoom why)
  left-room own e JournalFull is free left same = unchanged left same
  left-room own e (ByMachine Broken) is free left same = unchanged left same
  left-room own e (ByMachine Ended) is free left same = unchanged left same
  left-room own e (ByMachine NoMember) is free left same = unchanged left same
  left-room own e (ByMachine NoUser) is free left same = unchanged left same
  left-room own e (ByMachine Full) is free left same = unchanged left same
  left-room own e (ByMachine NoRequest) is free left same = unchanged left same
  left-room own e (ByMachine Cut) is free left same = unchanged left same
  left-room own e (ByMachine BadCount) is free left same = unchanged left same
  left-room own e (ByMachine OutOfRange) is free left same = unchanged left same
  left-room own e (ByMachine DoubleUser) is free left same = unchanged left same
  left-room own e (ByMachine DoubleFloor) is free left same = unchanged left same
  left-room own e (ByMachine NoFloor) is free left same = unchanged left same
  left-room own e (ByMachine UnknownChair) is free left same = unchanged left same
  left-room own e (ByMachine Memory) is free left same = (breaks IsBrokenOff own (e, is, free refl) (broken-off (own r) r s e is left), same)

-- what a refusal of a conference without a room has left
pub none-left : (own : Room → List Event) (c : ℕ) (old new : Hub) (b : Bool) → SameHub old new → LeftAt own c old new (ended_or_none b)
none-left own c old new true same = same
none-left own c old new false same = same

module _ (own : Room → List Event) (e : Event) (c : ℕ) (old new : Hub) (is : (r : Room) → own r ≡ e ∷ []) (arrivals : new.arrivals ≡ old.arrivals) (forgotten : Bool) where
  -- a call for a conference, whose own event is this
  pub left-at : {T : Type 0} (res : Result T HubRefusal) (y : Option Room) → room_at old c ≡ y →
      (room_at old c ≡ None → (res ≡ Err (ended_or_none forgotten)) × ((d : ℕ) → room_at new d ≡ room_at old d)) →
      ((r : Room) → room_at old c ≡ Some r → (s : Room) × (room_at new c ≡ Some s) × ((d : ℕ) → nat_eq c d ≡ false → room_at new d ≡ room_at old d)
      × IfErr res (λ x. (why : RoomRefusal) × (x ≡ ByRoom why) × (why ≡ ByMachine Memory → refusal r.ledger e ≡ None) × Left r s e why)) →
      OnErr res (SameConnections old.connections new.connections) → IfErr res (LeftAt own c old new)
  left-at (Ok v) y was absent there same = tt
  left-at (Err x) None was absent there same =
      let a = absent was in
      subst (LeftAt own c old new) (sym (err_is x (ended_or_none forgotten) a.0)) (none-left own c old new forgotten (record { rooms = a.1; connections = same; arrivals = arrivals }))
  left-at (Err x) (Some r) was absent there same =
      let t = there r was in
      subst (LeftAt own c old new) (sym t.3.1) (left-room c old new r t.0 was t.1 t.2 arrivals own e t.3.0 (is r) t.3.2 t.3.3 same)

-- an attach
pub left-attach : (user c : ℕ) (old new : Hub) (forgotten : Bool) (x : HubRefusal) → new.arrivals ≡ old.arrivals → (y : Option Room) → room_at old c ≡ y →
    (room_at old c ≡ None → (◌≡◌ {A = Result (Unit {0}) HubRefusal} (Err x) (Err (ended_or_none forgotten))) × ((d : ℕ) → room_at new d ≡ room_at old d)) →
    ((r : Room) → room_at old c ≡ Some r → (s : Room) × (room_at new c ≡ Some s) × ((d : ℕ) → nat_eq c d ≡ false → room_at new d ≡ room_at old d)
    × ((why : RoomRefusal) × (x ≡ ByRoom why) × AttachFailsIn r s user why)) →
    SameConnections old.connections new.connections → LeftAt (attach_event user) c old new x
left-attach user c old new forgotten x arrivals y was absent there same =
    left-at (attach_event user) (Join user) c old new (λ r. refl) arrivals forgotten {T = Unit {0}} (Err x) y was absent
    (λ r is. let t = there r is in (t.0, t.1, t.2, (t.3.0, t.3.1, attach-allowed r t.0 user t.3.0 t.3.2, attach-left r t.0 user t.3.0 t.3.2))) same

-- a room that takes events isn't shut
unshut-where : (r : Room) → closed r.ledger ≡ None → is_shut r ≡ false
unshut-where r none =
    let u = opened r.ledger (sym none) in
    ap (λ (b : Bool). b || not (conference_of r.ledger).is_open) u.unbroken ∙ ap (λ (o : Bool). false || not o) u.open_now

module _ (number : ℕ) (old new : Hub) (arrivals : new.arrivals ≡ old.arrivals) (w : World) (st : StandsFor old w) where
  abbrev rooms : ℕ → Option Room
  rooms = room_at old

  abbrev now : ℕ → Option Room
  now = room_at new

  abbrev xs : ℕ → Option Connection
  xs = connection_at old.connections

  abbrev now_xs : ℕ → Option Connection
  now_xs = connection_at new.connections

  -- the connection's member is live where the room takes events
  live : (x : Connection) (is : xs number ≡ Some x) (r s : Room) → rooms x.conference ≡ Some r → now x.conference ≡ Some s →
      ((d : ℕ) → nat_eq x.conference d ≡ false → now d ≡ rooms d) → ((k : ℕ) → nat_eq number k ≡ false → now_xs k ≡ xs k) →
      (e : Event) → ((q : Room) → closed q.ledger ≡ None → is_live (conference_of q.ledger) x.n ≡ true → q ≡ r → refusal q.ledger e ≡ None) → closed r.ledger ≡ None → refusal r.ledger e ≡ None
  live x is r s was is_now other_rooms others e free none =
      let h = here-now old w st number x is in
      let same : h.r ≡ r = some_is h.r r (sym h.room ∙ ap rooms (sym h.conference) ∙ was) in
      let open_now : closed h.r.ledger ≡ None = ap (λ (y : Room). closed y.ledger) same ∙ none in
      let alive = connected-live old w st number x is h.r (ap rooms h.conference ∙ h.room) (unshut-where h.r open_now) in
      ap (λ (y : Room). refusal y.ledger e) (sym same) ∙ free h.r open_now alive same

  some_head : (ms : List (List ℕ)) → ms ≢ [] → (m : List ℕ) × (rest : List (List ℕ)) × (ms ≡ m ∷ rest)
  some_head [] ne = absurd (ne refl)
  some_head (m ∷ rest) ne = (m, rest, refl)

  -- the connection holds what it held
  still : (x : Connection) (rest : List ℕ) → xs number ≡ Some x → Puts old.connections new.connections number (Some (record { conference = x.conference; n = x.n; held = rest })) → rest ≡ x.held →
      SameConnections old.connections new.connections
  still x rest is puts held = λ k. by k (nat_eq number k) refl
    where
      by : (k : ℕ) (b : Bool) → nat_eq number k ≡ b → now_xs k ≡ xs k
      by k true e =
          ap now_xs (sym (eqb-true number k e)) ∙ puts.here ∙ ap (λ (y : List ℕ). Some (record { conference = x.conference; n = x.n; held = y })) held
          ∙ sym is ∙ ap xs (eqb-true number k e)
      by k false e = puts.others k e

  -- a room is closed by something else than want of memory
  left-closed : (x : Connection) (b o f : Bool) (why : RoomRefusal) →
      cond b (Some (ByMachine Broken)) (cond (not o) (Some (ByMachine Ended)) (cond f (Some JournalFull) None)) ≡ Some why → SameHub old new → LeftServing number (Some x) old new (ByRoom why)
  left-closed x true o f why e same = subst (λ (y : RoomRefusal). LeftServing number (Some x) old new (ByRoom y)) (some_is (ByMachine Broken) why e) same
  left-closed x false false f why e same = subst (λ (y : RoomRefusal). LeftServing number (Some x) old new (ByRoom y)) (some_is (ByMachine Ended) why e) same
  left-closed x false true true why e same = subst (λ (y : RoomRefusal). LeftServing number (Some x) old new (ByRoom y)) (some_is JournalFull why e) same
  left-closed x false true false why e same = absurd (none-some why e)

  serve-fails : (x : Connection) (is : xs number ≡ Some x) (r s : Room) (rest : List ℕ) (why : RoomRefusal) → rooms x.conference ≡ Some r → now x.conference ≡ Some s →
      ((d : ℕ) → nat_eq x.conference d ≡ false → now d ≡ rooms d) → Puts old.connections new.connections number (Some (record { conference = x.conference; n = x.n; held = rest })) →
      ServeFailsIn r s x.n x.held rest why → LeftServing number (Some x) old new (ByRoom why)
  serve-fails x is r s rest why was is_now others puts (inl f) =
      left-closed x r.ledger.is_broken (conference_of r.ledger).is_open (nat_le 2000000 (length r.ledger.journal)) why f.0
      (unchanged x.conference old new r s was is_now others arrivals f.2 (still x rest is puts f.3))
  serve-fails x is r s rest why was is_now others puts (inr (inl f)) =
      subst (λ (y : RoomRefusal). LeftServing number (Some x) old new (ByRoom y)) (sym f.0)
      (unchanged x.conference old new r s was is_now others arrivals f.4 (still x rest is puts f.5))
  serve-fails x is r s rest why was is_now others puts (inr (inr (inl f))) =
      let one = some_head (messages x.held) f.3 in
      let may = live x is r s was is_now others puts.others (Message x.n one.0)
      (λ q none alive same. no_message_refusal q x.n none alive (ap (λ (y : Room). is_cut (conference_of y.ledger) x.n) same ∙ f.2)) f.1 in
      subst (λ (y : RoomRefusal). LeftServing number (Some x) old new (ByRoom y)) (sym f.0)
      (inl (breaks x.conference old new r s was is_now others arrivals IsUnbegun (serve_event x) (Message x.n one.0, ap (λ (ms : List (List ℕ)). map (Message x.n) (take 1 ms)) one.2, may) f.4, still x rest is puts f.5))
  serve-fails x is r s rest why was is_now others puts (inr (inr (inr f))) =
      let may = live x is r s was is_now others puts.others (Message x.n f.0)
      (λ q none alive same. no_message_refusal q x.n none alive (ap (λ (y : Room). is_cut (conference_of y.ledger) x.n) same ∙ f.2)) f.1 in
      let memory : why ≡ ByMachine Memory = by_memory (refusal r.ledger (Message x.n f.0)) why may f.3 in
      subst (λ (y : RoomRefusal). LeftServing number (Some x) old new (ByRoom y)) (sym memory)
      (inr (
        breaks x.conference old new r s was is_now others arrivals IsBrokenOff (serve_event x) (Message x.n f.0, serves-first x r f.0 rest f.5, may)
            (broken-off (serve_event x r) r s (Message x.n f.0) (serves-first x r f.0 rest f.5) (subst (Left r s (Message x.n f.0)) memory f.4)),
        record { frame = f.0; rest = rest; first = f.5; held = f.6; next = puts },
      ))

  pub left-serve : (res : Result Served HubRefusal) (y : Option Connection) → xs number ≡ y →
      (xs number ≡ None → (res ≡ Err NoConnection) × ((d : ℕ) → now d ≡ rooms d) × SameConnections old.connections new.connections) →
      ((x : Connection) → xs number ≡ Some x → (r : Room) → rooms x.conference ≡ Some r → (s : Room) × (rest : List ℕ) × (now x.conference ≡ Some s)
      × ((d : ℕ) → nat_eq x.conference d ≡ false → now d ≡ rooms d)
      × Puts old.connections new.connections number (Some (record { conference = x.conference; n = x.n; held = rest })) × ServedIn r s x.n x.held rest res) →
      IfErr res (LeftServing number y old new)
  left-serve (Ok v) y is absent there = tt
  left-serve (Err z) None is absent there =
      let a = absent is in
      subst (LeftServing number None old new) (sym (err_is z NoConnection a.0)) (record { rooms = a.1; connections = a.2; arrivals = arrivals })
  left-serve (Err z) (Some x) is absent there =
      let h = here-now old w st number x is in
      let was : rooms x.conference ≡ Some h.r = ap rooms h.conference ∙ h.room in
      let t = there x is h.r was in
      let f = t.5.failed in
      subst (LeftServing number (Some x) old new) (sym f.1) (serve-fails x is h.r t.0 t.1 f.0 was t.2 t.3 t.4 f.2)

  pub left-leave : (res : Result (Unit {0}) HubRefusal) (y : Option Connection) → xs number ≡ y →
      (xs number ≡ None → (res ≡ Err NoConnection) × ((d : ℕ) → now d ≡ rooms d) × SameConnections old.connections new.connections) →
      ((x : Connection) → xs number ≡ Some x → Puts old.connections new.connections number None) →
      ((x : Connection) → xs number ≡ Some x → (r : Room) → rooms x.conference ≡ Some r → (s : Room) × (now x.conference ≡ Some s)
      × ((d : ℕ) → nat_eq x.conference d ≡ false → now d ≡ rooms d) × IfErr res (λ z. (why : RoomRefusal) × (z ≡ ByRoom why) × LeaveFailsIn r s x.n why)) →
      IfErr res (LeftLeaving number y old new)
  left-leave (Ok v) y is absent went there = tt
  left-leave (Err z) None is absent went there =
      let a = absent is in
      subst (LeftLeaving number None old new) (sym (err_is z NoConnection a.0)) (record { rooms = a.1; connections = a.2; arrivals = arrivals })
  left-leave (Err z) (Some x) is absent went there =
      let h = here-now old w st number x is in
      let was : rooms x.conference ≡ Some h.r = ap rooms h.conference ∙ h.room in
      let t = there x is h.r was in
      let f = t.3.2 in
      let gone = went x is in
      let may = live x is h.r t.0 was t.1 t.2 gone.others (Leave x.n) (λ q none alive same. no_refusal q x.n none alive) f.opened in
      let memory : t.3.0 ≡ ByMachine Memory = by_memory (refusal h.r.ledger (Leave x.n)) t.3.0 may f.refused in
      subst (LeftLeaving number (Some x) old new) (sym (t.3.1 ∙ ap (λ (y : RoomRefusal). ByRoom y) memory)) (
        breaks x.conference old new h.r t.0 was t.1 t.2 arrivals IsBrokenOff (leave_event x) (Leave x.n, leaves-open x h.r f.opened, may)
            (broken-off (leave_event x h.r) h.r t.0 (Leave x.n) (leaves-open x h.r f.opened) (subst (Left h.r t.0 (Leave x.n)) memory f.after)),
        gone,
      )

-- an acknowledgement
pub left-took : (number k : ℕ) (old new : Hub) → new.arrivals ≡ old.arrivals → (res : Result (Unit {0}) HubRefusal) (y : Option Connection) → connection_at old.connections number ≡ y →
    (connection_at old.connections number ≡ None → (res ≡ Err NoConnection) × ((d : ℕ) → room_at new d ≡ room_at old d)) →
    ((x : Connection) → connection_at old.connections number ≡ Some x → (r : Room) × (s : Room) × (room_at old x.conference ≡ Some r) × (room_at new x.conference ≡ Some s)
    × ((d : ℕ) → nat_eq x.conference d ≡ false → room_at new d ≡ room_at old d) × IfErr res (λ z. (why : RoomRefusal) × (z ≡ ByRoom why) × (why ≡ ByMachine Memory → refusal r.ledger (Took x.n k) ≡ None) × Left r s (Took x.n k) why)) →
    SameConnections old.connections new.connections → IfErr res (LeftTaking k y old new)
left-took number k old new arrivals (Ok v) y is absent there same = tt
left-took number k old new arrivals (Err z) None is absent there same =
    let a = absent is in
    subst (LeftTaking k None old new) (sym (err_is z NoConnection a.0)) (record { rooms = a.1; connections = same; arrivals = arrivals })
left-took number k old new arrivals (Err z) (Some x) is absent there same =
    let t = there x is in
    subst (LeftTaking k (Some x) old new) (sym t.5.1) (left-room x.conference old new t.0 t.1 t.2 t.3 t.4 arrivals (took_event k x) (Took x.n k) t.5.0 refl t.5.2 t.5.3 same)
