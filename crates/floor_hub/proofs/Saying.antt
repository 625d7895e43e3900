-- A message that is said for a user: what it has done to its conference's room, and what it is in the world.
use Rattle.std.proofs.Common.{◌≡◌, ◌≢◌, ◌⊎◌, inl, inr, ℕ, Bool, true, false, List, [], ◌∷◌, length, refl, sym, ◌∙◌, ap, subst, Some, None}
use Rattle.std.specs.Option.{option_map}
use Rattle.std.specs.Prelude.{Option, nat_eq, ◌==◌, Result, Ok, Err, IfErr, IfOk, MatchResult}
use Rattle.std.proofs.lemmas.Bool.{eq-eqb, ne_eqb}
use Rattle.floor_config.specs.Configuration.{Configuration}
use Rattle.floor_wire.specs.Message.{message_len}
use Rattle.floor_machine.specs.declared.event.Event.{Event}
use Rattle.floor_machine.specs.declared.event.Event.TheVariants.{Say as Says}
use Rattle.floor_machine.specs.declared.machine.Refusal.TheVariants.{Broken, Ended, NoMember, NoUser, Full, NoRequest, Cut, BadCount, Memory, OutOfRange, DoubleUser, DoubleFloor, NoFloor, UnknownChair}
use Rattle.floor_machine.specs.Machine.{event_refusal, whole}
use Rattle.floor_room.specs.declared.refusal.RoomRefusal.{RoomRefusal}
use Rattle.floor_room.specs.declared.refusal.RoomRefusal.TheVariants.{JournalFull, Refused as ByMachine}
use Rattle.floor_room.specs.declared.said.Said as room
use Rattle.floor_room.specs.Room.{Room}
use Rattle.floor_room.specs.Ledger.{IsRefusedBy, closed, conference_of, first_of, refusal}
use Rattle.floor_room.specs.Calls.{Applied, Left}
use Rattle.floor_room.proofs.Ledgers.{allowed-open}
use Rattle.floor_hub.specs.declared.refusal.HubRefusal.{HubRefusal}
use Rattle.floor_hub.specs.declared.refusal.HubRefusal.TheVariants.{BadMessage, NoConference, ByRoom}
use Rattle.floor_hub.specs.declared.connection.Connection.{Connection}
use Rattle.floor_hub.specs.declared.step.Step.TheVariants.{Say}
use Rattle.floor_hub.specs.declared.step.Answer.{Answer}
use Rattle.floor_hub.specs.declared.step.Answer.TheVariants.{Said, Refused}
use Rattle.floor_hub.specs.Calls.{IsWant}
use Rattle.floor_hub.specs.Connections.{SameConnections}
use Rattle.floor_hub.specs.Hub.{Hub, room_at}
use Rattle.floor_hub.specs.Left.{LeftAt}
use Rattle.floor_hub.specs.Rooms.{OneRoom, RoomAfter, by_broken, ended_or_none, refusal_in, say_event}
use Rattle.floor_hub.specs.StandsFor.{RoomStands}
use Rattle.floor_hub.specs.World as world
use Rattle.floor_hub.specs.World.{IsIdle, World, Part, answer_said, is_message, ledger_of, offer, put, refused, turn, unsaid}
use Rattle.floor_hub.specs.steps.Serving.{SaidIn, SayFailsIn}
use Rattle.floor_hub.proofs.Acting.{IsQuiet, broken_off, refusal-part, refused-some, same_all, sound-by, stands_refused, stands_taken, stays}
use Rattle.floor_hub.proofs.Known.{Went}
use Rattle.floor_hub.proofs.Left.{err_is, free, left-room, none-left, unchanged}
use Rattle.floor_hub.proofs.Moving.{applied-went, left-went}
use Rattle.floor_hub.proofs.RoomSteps.{calm, one-at, one-none, room-left, room-same, room-took, true_false, unbroken_said}
use Rattle.floor_hub.proofs.Standing.{RoomsStand}
use Rattle.floor_hub.proofs.Wanting.{allowed, never}

-- an event that the room refuses has left it as it was
left-refused : (r new : Room) (e : Event) (why : RoomRefusal) → refusal r.ledger e ≡ Some why → new ≡ r → Left r new e why
left-refused r new e JournalFull is same = same
left-refused r new e (ByMachine Broken) is same = same
left-refused r new e (ByMachine Ended) is same = same
left-refused r new e (ByMachine NoMember) is same = same
left-refused r new e (ByMachine NoUser) is same = same
left-refused r new e (ByMachine Full) is same = same
left-refused r new e (ByMachine NoRequest) is same = same
left-refused r new e (ByMachine Cut) is same = same
left-refused r new e (ByMachine BadCount) is same = same
left-refused r new e (ByMachine OutOfRange) is same = same
left-refused r new e (ByMachine DoubleUser) is same = same
left-refused r new e (ByMachine DoubleFloor) is same = same
left-refused r new e (ByMachine NoFloor) is same = same
left-refused r new e (ByMachine UnknownChair) is same = same
left-refused r new e (ByMachine Memory) is same = absurd (never r.ledger e is)

refused-by : (x : Option RoomRefusal) (why : RoomRefusal) → x ≡ Some why → IsRefusedBy {T = Unit {0}} x (Err why)
refused-by x why is = subst (λ (y : Option RoomRefusal). IsRefusedBy {T = Unit {0}} y (Err why)) (sym is) refl

-- why nothing was said: it isn't one message, or the room has refused its event, or memory was refused for the message
abbrev pub FailsBy : ℕ → List ℕ → Room → Room → HubRefusal → Type 0
FailsBy user bytes old new x =
    ((x ≡ BadMessage) × (is_message bytes ≡ false) × (refusal old.ledger (Says user bytes) ≡ None) × (new ≡ old))
    ⊎ ((why : RoomRefusal) × (x ≡ ByRoom why) × (why ≡ ByMachine Memory → is_message bytes ≡ true)
    × IsRefusedBy {T = Unit {0}} (refusal old.ledger (Says user bytes)) (Err why) × Left old new (Says user bytes) why)

fails-by : (user : ℕ) (bytes : List ℕ) (old new : Room) (x : HubRefusal) → SayFailsIn user bytes old new x → FailsBy user bytes old new x
fails-by user bytes old new x (inl f) = inr (
  f.0,
  f.1,
  (λ memory. absurd (never old.ledger (Says user bytes) (f.2 ∙ ap (λ (y : RoomRefusal). Some y) memory))),
  refused-by (refusal old.ledger (Says user bytes)) f.0 f.2,
  left-refused old new (Says user bytes) f.0 f.2 f.3,
)
fails-by user bytes old new x (inr (inl f)) = inl f
fails-by user bytes old new x (inr (inr f)) = inr (f.0, f.1, (λ memory. f.2), f.3, f.4)

-- a conference that has ended refuses it
pub said-ended : (user : ℕ) (bytes : List ℕ) (r : Room) → closed r.ledger ≡ Some (ByMachine Ended) → SaidIn user bytes r r (Err (ByRoom (ByMachine Ended)))
said-ended user bytes r h = record { said = tt; failed = inl (ByMachine Ended, refl, ap (λ (x : Option RoomRefusal). first_of x (option_map ByMachine (event_refusal (whole (conference_of r.ledger)) (Says user bytes)))) h, refl) }

-- what it has done to the room
pub said-went : (user : ℕ) (bytes : List ℕ) (r s : Room) (res : Result room.Said HubRefusal) → SaidIn user bytes r s res → Went r s
said-went user bytes r s (Ok v) h = applied-went r s (Says user bytes) h.said.0
said-went user bytes r s (Err x) h = by (fails-by user bytes r s x h.failed)
  where
    by : FailsBy user bytes r s x → Went r s
    by (inl f) = inl f.3
    by (inr f) = left-went (Says user bytes) r s f.0 (free r (Says user bytes) f.0 f.3) f.4

-- where a conference has no room
abbrev pub Absent : ℕ → Hub → Hub → Bool → Result room.Said HubRefusal → Type 0
Absent c old new forgotten res = room_at old c ≡ None → (res ≡ Err (ended_or_none forgotten)) × ((d : ℕ) → room_at new d ≡ room_at old d)

-- and where it has one
abbrev pub There : ℕ → ℕ → List ℕ → Hub → Hub → Result room.Said HubRefusal → Type 0
There c user bytes old new res = (r : Room) → room_at old c ≡ Some r →
    (s : Room) × (room_at new c ≡ Some s) × ((d : ℕ) → nat_eq c d ≡ false → room_at new d ≡ room_at old d) × SaidIn user bytes r s res

module _ (c user : ℕ) (bytes : List ℕ) (old new : Hub) (forgotten : Bool) where
  said-at : (res : Result room.Said HubRefusal) (r s : Room) → SaidIn user bytes r s res → RoomAfter by_broken (refusal_in res) (Says user bytes ∷ []) r s
  said-at (Ok v) r s h = room-took by_broken (Says user bytes ∷ []) r s (Says user bytes) refl h.said.0
  said-at (Err x) r s h = by (fails-by user bytes r s x h.failed)
    where
      by : FailsBy user bytes r s x → RoomAfter by_broken (Some x) (Says user bytes ∷ []) r s
      by (inl f) =
          subst (λ (y : HubRefusal). RoomAfter by_broken (Some y) (Says user bytes ∷ []) r s) (sym f.0)
          (room-same by_broken (Some BadMessage) (Says user bytes ∷ []) r s (λ w. cc) (λ b. absurd (true_false (sym b ∙ (allowed-open r.ledger (Says user bytes) f.2).unbroken))) (λ t. absurd (cc)) refl f.3)
      by (inr f) =
          subst (λ (y : HubRefusal). RoomAfter by_broken (Some y) (Says user bytes ∷ []) r s) (sym f.1)
          (room-left (Says user bytes ∷ []) r s (Says user bytes) f.0 refl f.3 f.4)

  pub said-room : (res : Result room.Said HubRefusal) (y : Option Room) → room_at old c ≡ y → Absent c old new forgotten res → There c user bytes old new res →
      OneRoom by_broken (refusal_in res) (say_event user bytes) c old new
  said-room res None is absent there =
      let a = absent is in
      subst (λ (x : Result room.Said HubRefusal). OneRoom by_broken (refusal_in x) (say_event user bytes) c old new) (sym a.0)
      (one-none by_broken (Some (ended_or_none forgotten)) (say_event user bytes) c old new is (calm forgotten) (unbroken_said forgotten) a.1)
  said-room res (Some r) is absent there =
      let t = there r is in
      one-at by_broken (refusal_in res) (say_event user bytes) c old new r t.0 is t.1 t.2 (said-at res r t.0 t.3)

  -- what it has left that was refused
  pub said-left : new.arrivals ≡ old.arrivals → (res : Result room.Said HubRefusal) (y : Option Room) → room_at old c ≡ y → Absent c old new forgotten res → There c user bytes old new res →
      SameConnections old.connections new.connections → IfErr res (LeftAt (say_event user bytes) c old new)
  said-left arrivals (Ok v) y was absent there same = tt
  said-left arrivals (Err x) None was absent there same =
      let a = absent was in
      subst (LeftAt (say_event user bytes) c old new) (sym (err_is x (ended_or_none forgotten) a.0))
      (none-left (say_event user bytes) c old new forgotten (record { rooms = a.1; connections = same; arrivals = arrivals }))
  said-left arrivals (Err x) (Some r) was absent there same = let t = there r was in by t.0 t.1 t.2 (fails-by user bytes r t.0 x t.3.failed)
    where
      by : (s : Room) → room_at new c ≡ Some s → ((d : ℕ) → nat_eq c d ≡ false → room_at new d ≡ room_at old d) → FailsBy user bytes r s x → LeftAt (say_event user bytes) c old new x
      by s now others (inl f) = subst (LeftAt (say_event user bytes) c old new) (sym f.0) (unchanged c old new r s was now others arrivals f.3 same)
      by s now others (inr f) =
          subst (LeftAt (say_event user bytes) c old new) (sym f.1)
          (left-room c old new r s was now others arrivals (say_event user bytes) (Says user bytes) f.0 refl (free r (Says user bytes) f.0 f.3) f.4 same)

  -- what it was answered by that was taken
  pub said-is : (res : Result room.Said HubRefusal) (y : Option Room) → room_at old c ≡ y → Absent c old new forgotten res → There c user bytes old new res →
      IfOk res (λ v. (r : Room) × (room_at old c ≡ Some r) × (v ≡ answer_said r.ledger user bytes))
  said-is (Err x) y was absent there = tt
  said-is (Ok v) None was absent there = absurd (apart (absent was).0)
    where
      apart : ◌≡◌ {A = Result room.Said HubRefusal} (Ok v) (Err (ended_or_none forgotten)) → ⊥
      apart e = cc
  said-is (Ok v) (Some r) was absent there = (r, was, (there r was).3.said.1)

-- the answer is the part's
said-part : (r : Room) (p : Part) (user : ℕ) (bytes : List ℕ) → r.ledger.config ≡ p.config → r.ledger.journal ≡ p.events → answer_said r.ledger user bytes ≡ answer_said (ledger_of p) user bytes
said-part r p user bytes config journal =
    ap (λ (x : Configuration). answer_said (record { config = x; journal = r.ledger.journal; is_broken = false }) user bytes) config
    ∙ ap (λ (es : List Event). answer_said (record { config = p.config; journal = es; is_broken = false }) user bytes) journal

module _ (rooms now : ℕ → Option Room) (xs : ℕ → Option Connection) (k : ℕ) (w : World) (c user : ℕ) (bytes : List ℕ) (st : RoomsStand rooms xs k w) where
  quiet : IsQuiet (Says user bytes)
  quiet n = refl

  -- the turn with this offer
  abbrev TurnIs : world.Offered → Answer → Type 0
  TurnIs o a = RoomsStand now xs k (put w c o).world × ((put w c o).answer ≡ a)

  abbrev pub SayFails : HubRefusal → Type 0
  SayFails x = (IsWant (turn w (Say c user bytes)).answer x × RoomsStand now xs k w) ⊎ TurnIs (offer (w.parts c) (Say c user bytes)) (Refused x)

  part_of : (y : Option Room) → rooms c ≡ y → RoomStands y (w.parts c)
  part_of y is = subst (λ (x : Option Room). RoomStands x (w.parts c)) is (st.of_rooms c)

  absent : rooms c ≡ None → ((d : ℕ) → now d ≡ rooms d) → TurnIs (offer (w.parts c) (Say c user bytes)) (Refused NoConference)
  absent is same =
      subst (λ (z : Option Part). TurnIs (offer z (Say c user bytes)) (Refused NoConference)) (sym gone)
      (stands_refused rooms now xs k w c (Says user bytes) quiet st same None gone, refl)
    where
      by : (z : Option Part) → RoomStands None z → z ≡ None
      by None h = refl
      by (Some p) h = absurd h

      gone : w.parts c ≡ None
      gone = by (w.parts c) (part_of None is)

  -- nothing refuses it
  free_part : (r : Room) (p : Part) → refusal r.ledger (Says user bytes) ≡ None → is_message bytes ≡ true → RoomStands (Some r) (Some p) → unsaid (refused p (Says user bytes)) (is_message bytes) ≡ None
  free_part r p may framed h =
      let sound : r.ledger.is_broken ≡ false = sound-by r (Says user bytes) None r.ledger.is_broken refl may (λ x. cc) in
      ap (λ (x : Option RoomRefusal). unsaid x (is_message bytes)) (sym (refusal-part r p (Says user bytes) sound h.0 (h.1 sound)) ∙ may) ∙ ap (unsaid None) framed

  taken : (r new : Room) (z : Option Part) → w.parts c ≡ z → rooms c ≡ Some r → ((d : ℕ) → d ≢ c → now d ≡ rooms d) → now c ≡ Some new → Applied r new (Says user bytes) → RoomStands (Some r) z →
      TurnIs (offer z (Say c user bytes)) (Said (answer_said r.ledger user bytes))
  taken r new None was is others here t h = absurd h
  taken r new (Some p) was is others here t h =
      let sound : r.ledger.is_broken ≡ false = sound-by r (Says user bytes) None r.ledger.is_broken refl t.allowed (λ x. cc) in
      let framed : is_message bytes ≡ true = eq-eqb (length bytes) (message_len bytes) t.lawful.2 in
      subst (λ (x : Option HubRefusal). TurnIs (world.say p user bytes x) (Said (answer_said r.ledger user bytes))) (sym (free_part r p t.allowed framed h)) (
        stands_taken rooms now xs k w c (Says user bytes) quiet st r new p is was others here sound (ap (λ (x : Room). x.ledger.config) t.next) (ap (λ (x : Room). x.ledger.journal) t.next),
        ap Said (sym (said-part r p user bytes h.0 (h.1 sound))),
      )

  refused_part : (r : Room) (x : HubRefusal) (z : Option Part) → w.parts c ≡ z → ((d : ℕ) → now d ≡ rooms d) → ((p : Part) → z ≡ Some p → unsaid (refused p (Says user bytes)) (is_message bytes) ≡ Some x) → RoomStands (Some r) z →
      TurnIs (offer z (Say c user bytes)) (Refused x)
  refused_part r x None was same is h = absurd h
  refused_part r x (Some p) was same is h =
      subst (λ (y : Option HubRefusal). TurnIs (world.say p user bytes y) (Refused x)) (sym (is p refl)) (stands_refused rooms now xs k w c (Says user bytes) quiet st same (Some p) was, refl)

  -- the part refuses what its room does
  part_refuses : (r : Room) (o : Option RoomRefusal) → r.ledger.is_broken ≡ false → refusal r.ledger (Says user bytes) ≡ o → (z : Option Part) → RoomStands (Some r) z → (p : Part) → z ≡ Some p → refused p (Says user bytes) ≡ o
  part_refuses r o sound is None h p e = absurd h
  part_refuses r o sound is (Some q) h p e =
      let same : q ≡ p = some q p e in
      ap (λ (x : Part). refused x (Says user bytes)) (sym same) ∙ sym (refusal-part r q (Says user bytes) sound h.0 (h.1 sound)) ∙ is
    where
      some : (q p : Part) → ◌≡◌ {A = Option Part} (Some q) (Some p) → q ≡ p
      some q p e = cc

  -- the room has refused it, and is as it was
  refused_as : (r new : Room) (why : RoomRefusal) → rooms c ≡ Some r → ((d : ℕ) → d ≢ c → now d ≡ rooms d) → now c ≡ Some new → IsRefusedBy {T = Unit {0}} (refusal r.ledger (Says user bytes)) (Err why) →
      why ≢ ByMachine Memory → why ≢ ByMachine Broken → new ≡ r → SayFails (ByRoom why)
  refused_as r new why is others here refused_by no_memory unbroken same =
      let some : refusal r.ledger (Says user bytes) ≡ Some why = refused-some r (Says user bytes) why (refusal r.ledger (Says user bytes)) refl refused_by no_memory in
      let sound : r.ledger.is_broken ≡ false = sound-by r (Says user bytes) (Some why) r.ledger.is_broken refl some (λ x. unbroken (by why (ByMachine Broken) x)) in
      inr (refused_part r (ByRoom why) (w.parts c) refl (λ d. same_all rooms now xs k w c (Says user bytes) quiet st r new is others here same d (d == c) refl)
      (λ p e. ap (λ (x : Option RoomRefusal). unsaid x (is_message bytes)) (part_refuses r (Some why) sound some (w.parts c) (part_of (Some r) is) p e))
      (part_of (Some r) is))
    where
      by : (a b : RoomRefusal) → ◌≡◌ {A = Option RoomRefusal} (Some a) (Some b) → a ≡ b
      by a b x = cc

  -- it isn't one message, and the room is as it was
  no_message : (r new : Room) → rooms c ≡ Some r → ((d : ℕ) → d ≢ c → now d ≡ rooms d) → now c ≡ Some new → is_message bytes ≡ false → refusal r.ledger (Says user bytes) ≡ None → new ≡ r → SayFails BadMessage
  no_message r new is others here framed none same =
      let sound : r.ledger.is_broken ≡ false = sound-by r (Says user bytes) None r.ledger.is_broken refl none (λ x. cc) in
      inr (refused_part r BadMessage (w.parts c) refl (λ d. same_all rooms now xs k w c (Says user bytes) quiet st r new is others here same d (d == c) refl)
      (λ p e. ap (λ (x : Option RoomRefusal). unsaid x (is_message bytes)) (part_refuses r None sound none (w.parts c) (part_of (Some r) is) p e) ∙ ap (unsaid None) framed)
      (part_of (Some r) is))

  -- the part would take it
  would : (r : Room) (z : Option Part) → refusal r.ledger (Says user bytes) ≡ None → is_message bytes ≡ true → RoomStands (Some r) z → IsIdle (put w c (offer z (Say c user bytes))).answer → ⊥
  would r None none framed h idle = absurd h
  would r (Some p) none framed h idle = subst (λ (x : Option HubRefusal). IsIdle (put w c (world.say p user bytes x)).answer) (free_part r p none framed h) idle

  failed : (r new : Room) (why : RoomRefusal) → rooms c ≡ Some r → ((d : ℕ) → d ≢ c → now d ≡ rooms d) → now c ≡ Some new → IsRefusedBy {T = Unit {0}} (refusal r.ledger (Says user bytes)) (Err why) →
      (why ≡ ByMachine Memory → is_message bytes ≡ true) → Left r new (Says user bytes) why → SayFails (ByRoom why)
  failed r new JournalFull is others here by framed left = refused_as r new JournalFull is others here by (λ x. cc) (λ x. cc) left
  failed r new (ByMachine Broken) is others here by framed left = inl (inr refl, stays rooms now xs k w c (Says user bytes) quiet st r new is others here left)
  failed r new (ByMachine Ended) is others here by framed left = refused_as r new (ByMachine Ended) is others here by (λ x. cc) (λ x. cc) left
  failed r new (ByMachine NoMember) is others here by framed left = refused_as r new (ByMachine NoMember) is others here by (λ x. cc) (λ x. cc) left
  failed r new (ByMachine NoUser) is others here by framed left = refused_as r new (ByMachine NoUser) is others here by (λ x. cc) (λ x. cc) left
  failed r new (ByMachine Full) is others here by framed left = refused_as r new (ByMachine Full) is others here by (λ x. cc) (λ x. cc) left
  failed r new (ByMachine NoRequest) is others here by framed left = refused_as r new (ByMachine NoRequest) is others here by (λ x. cc) (λ x. cc) left
  failed r new (ByMachine Cut) is others here by framed left = refused_as r new (ByMachine Cut) is others here by (λ x. cc) (λ x. cc) left
  failed r new (ByMachine BadCount) is others here by framed left = refused_as r new (ByMachine BadCount) is others here by (λ x. cc) (λ x. cc) left
  failed r new (ByMachine OutOfRange) is others here by framed left = refused_as r new (ByMachine OutOfRange) is others here by (λ x. cc) (λ x. cc) left
  failed r new (ByMachine DoubleUser) is others here by framed left = refused_as r new (ByMachine DoubleUser) is others here by (λ x. cc) (λ x. cc) left
  failed r new (ByMachine DoubleFloor) is others here by framed left = refused_as r new (ByMachine DoubleFloor) is others here by (λ x. cc) (λ x. cc) left
  failed r new (ByMachine NoFloor) is others here by framed left = refused_as r new (ByMachine NoFloor) is others here by (λ x. cc) (λ x. cc) left
  failed r new (ByMachine UnknownChair) is others here by framed left = refused_as r new (ByMachine UnknownChair) is others here by (λ x. cc) (λ x. cc) left
  failed r new (ByMachine Memory) is others here by framed left = inl (
    inl (refl, would r (w.parts c) (allowed r.ledger (Says user bytes) by) (framed refl) (part_of (Some r) is)),
    broken_off rooms now xs k w c (Says user bytes) quiet st r new is others here left,
  )

  said_at : (res : Result room.Said HubRefusal) (r new : Room) → rooms c ≡ Some r → ((d : ℕ) → d ≢ c → now d ≡ rooms d) → now c ≡ Some new → SaidIn user bytes r new res →
      MatchResult res (λ v. TurnIs (offer (w.parts c) (Say c user bytes)) (Said v)) SayFails
  said_at (Ok v) r new is others here h =
      subst (λ (x : room.Said). TurnIs (offer (w.parts c) (Say c user bytes)) (Said x)) (sym h.said.1) (taken r new (w.parts c) refl is others here h.said.0 (part_of (Some r) is))
  said_at (Err x) r new is others here h = by (fails-by user bytes r new x h.failed)
    where
      by : FailsBy user bytes r new x → SayFails x
      by (inl f) = subst SayFails (sym f.0) (no_message r new is others here f.1 f.2 f.3)
      by (inr f) = subst SayFails (sym f.1) (failed r new f.0 is others here f.3 f.2 f.4)

  -- what it is in the world
  pub said : (res : Result room.Said HubRefusal) (y : Option Room) → rooms c ≡ y → (rooms c ≡ None → (res ≡ Err NoConference) × ((d : ℕ) → now d ≡ rooms d)) →
      ((r : Room) → rooms c ≡ Some r → (new : Room) × (now c ≡ Some new) × ((d : ℕ) → nat_eq c d ≡ false → now d ≡ rooms d) × SaidIn user bytes r new res) →
      MatchResult res (λ v. TurnIs (offer (w.parts c) (Say c user bytes)) (Said v)) SayFails
  said res None is none there =
      let a = none is in
      subst (λ (x : Result room.Said HubRefusal). MatchResult x (λ v. TurnIs (offer (w.parts c) (Say c user bytes)) (Said v)) SayFails) (sym a.0) (inr (absent is a.1))
  said res (Some r) is none there =
      let t = there r is in
      said_at res r t.0 is (λ d ne. t.2 d (ne_eqb c d (λ x. ne (sym x)))) t.1 t.3
