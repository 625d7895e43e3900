-- An event that is no message of an arrival, in the room of one conference.
use Rattle.std.proofs.Common.{◌≡◌, ◌≢◌, ◌⊎◌, inl, inr, ℕ, Bool, true, false, List, [], ◌∷◌, ◌++◌, length, refl, sym, ◌∙◌, ap, subst, Some, None}
use Rattle.std.specs.Prelude.{Option, ◌==◌, nat_eq, if◌then◌else◌, Result, Ok, Err, OnOk, IfErr, MatchResult}
use Rattle.std.specs.List.{concat}
use Rattle.std.specs.Map.{update}
use Rattle.std.proofs.lemmas.Bool.{eqb-true, eqb-false, ne_eqb}
use Rattle.std.proofs.lemmas.Map.{update_here, update_apart}
use Rattle.floor_machine.specs.declared.act.Act.{Act}
use Rattle.floor_machine.specs.declared.event.Event.{Event}
use Rattle.floor_machine.specs.declared.event.Event.TheVariants.{Join, Message, Took, Leave, Revoke, Close, AddUser, AddFloor, SetChair, Say}
use Rattle.floor_machine.specs.declared.machine.Refusal.TheVariants.{Broken, Ended, NoMember, NoUser, Full, NoRequest, Cut, BadCount, Memory, OutOfRange, DoubleUser, DoubleFloor, NoFloor, UnknownChair}
use Rattle.floor_machine.specs.Machine.{event_of_act}
use Rattle.floor_room.specs.declared.refusal.RoomRefusal.{RoomRefusal}
use Rattle.floor_room.specs.declared.refusal.RoomRefusal.TheVariants.{JournalFull, Refused as ByMachine}
use Rattle.floor_room.specs.Room.{Room, broken_room}
use Rattle.floor_room.specs.Ledger.{IsRefusedBy, refusal}
use Rattle.floor_room.specs.Calls.{Applied, Began, Left}
use Rattle.floor_hub.specs.declared.refusal.HubRefusal.{HubRefusal}
use Rattle.floor_hub.specs.declared.refusal.HubRefusal.TheVariants.{NoConference, ByRoom}
use Rattle.floor_hub.specs.declared.connection.Connection.{Connection}
use Rattle.floor_hub.specs.declared.step.Step.TheVariants.{Admin}
use Rattle.floor_hub.specs.declared.step.Answer.{Answer}
use Rattle.floor_hub.specs.declared.step.Answer.TheVariants.{Done, Refused}
use Rattle.floor_hub.specs.World as world
use Rattle.floor_hub.specs.World.{IsIdle, World, Part, Arrival, messages_of, offer, put, ledger_of, refused, turn, with_events}
use Rattle.floor_hub.specs.StandsFor.{arrival_in, RoomStands, CameTo}
use Rattle.floor_hub.proofs.Standing.{RoomsStand}
use Rattle.floor_hub.proofs.Changed.{stands_changed}
use Rattle.floor_hub.specs.Calls.{IsWant}
use Rattle.floor_hub.proofs.Wanting.{allowed}

-- the event is no message
abbrev pub IsQuiet : Event → Type 0
IsQuiet e = (n : ℕ) → messages_of n (e ∷ []) ≡ []

pub quiet-act : (act : Act) → IsQuiet (event_of_act act)
quiet-act (Act.Revoke request) = λ n. refl
quiet-act Act.Close = λ n. refl
quiet-act (Act.AddUser user) = λ n. refl
quiet-act (Act.AddFloor floor) = λ n. refl
quiet-act (Act.SetChair floor chair) = λ n. refl

messages-quiet : (n : ℕ) (es : List Event) (e : Event) → IsQuiet e → messages_of n (es ++ e ∷ []) ≡ messages_of n es
messages-quiet n [] e q = q n
messages-quiet n (Join user ∷ es) e q = messages-quiet n es e q
messages-quiet n (Message m bytes ∷ es) e q = ap (λ (ms : List (List ℕ)). if m == n then bytes ∷ ms else ms) (messages-quiet n es e q)
messages-quiet n (Took m k ∷ es) e q = messages-quiet n es e q
messages-quiet n (Leave m ∷ es) e q = messages-quiet n es e q
messages-quiet n (Revoke request ∷ es) e q = messages-quiet n es e q
messages-quiet n (Close ∷ es) e q = messages-quiet n es e q
messages-quiet n (AddUser user ∷ es) e q = messages-quiet n es e q
messages-quiet n (AddFloor floor ∷ es) e q = messages-quiet n es e q
messages-quiet n (SetChair floor chair ∷ es) e q = messages-quiet n es e q
messages-quiet n (Say user bytes ∷ es) e q = messages-quiet n es e q

-- what came stays, where the room has taken it
came-quiet : (r new : Room) (e : Event) → IsQuiet e → r.ledger.is_broken ≡ false → new.ledger.journal ≡ r.ledger.journal ++ e ∷ [] → (x : Connection) (a : Arrival) → CameTo (Some r) x a → CameTo (Some new) x a
came-quiet r new e q sound journal x a h = λ b.
    let same : messages_of x.n new.ledger.journal ≡ messages_of x.n r.ledger.journal = ap (messages_of x.n) journal ∙ messages-quiet x.n r.ledger.journal e q in
    record {
      bytes = (h sound).bytes ∙ ap (λ (ms : List (List ℕ)). concat ms ++ x.held) (sym same);
      served = (h sound).served ∙ ap (λ (ms : List (List ℕ)). length ms) (sym same);
    }

came-broken : (r : Option Room) (new : Room) → new.ledger.is_broken ≡ true → (x : Connection) (a : Arrival) → CameTo r x a → CameTo (Some new) x a
came-broken r new b x a h = λ sound. absurd (apart (sym b ∙ sound))
  where
    apart : true ≡ false → ⊥
    apart e = cc

-- the room of a part refuses what the part refuses
pub refusal-part : (r : Room) (p : Part) (e : Event) → r.ledger.is_broken ≡ false → r.ledger.config ≡ p.config → r.ledger.journal ≡ p.events → refusal r.ledger e ≡ refused p e
refusal-part r p e sound config journal =
    ap (λ (b : Bool). refusal (record { config = r.ledger.config; journal = r.ledger.journal; is_broken = b }) e) sound
    ∙ ap (λ c. refusal (record { config = c; journal = r.ledger.journal; is_broken = false }) e) config
    ∙ ap (λ (es : List Event). refusal (record { config = p.config; journal = es; is_broken = false }) e) journal

-- a broken room refuses as broken
pub broken-refuses : (r : Room) (e : Event) → r.ledger.is_broken ≡ true → refusal r.ledger e ≡ Some (ByMachine Broken)
broken-refuses r e h = ap (λ (b : Bool). refusal (record { config = r.ledger.config; journal = r.ledger.journal; is_broken = b }) e) h

pub sound-by : (r : Room) (e : Event) (x : Option RoomRefusal) (b : Bool) → r.ledger.is_broken ≡ b → refusal r.ledger e ≡ x → x ≢ Some (ByMachine Broken) → r.ledger.is_broken ≡ false
sound-by r e x true h is ne = absurd (ne (sym is ∙ broken-refuses r e h))
sound-by r e x false h is ne = h

pub refused-some : (r : Room) (e : Event) (why : RoomRefusal) (x : Option RoomRefusal) → refusal r.ledger e ≡ x → IsRefusedBy {T = Unit {0}} x (Err why) → why ≢ ByMachine Memory → refusal r.ledger e ≡ Some why
refused-some r e why None is h ne = absurd (ne h)
refused-some r e why (Some y) is h ne = is ∙ ap (λ (z : RoomRefusal). Some z) (by why y h)
  where
    by : (a b : RoomRefusal) → ◌≡◌ {A = Result (Unit {0}) RoomRefusal} (Err a) (Err b) → b ≡ a
    by a b e = cc

module _ (rooms now : ℕ → Option Room) (xs : ℕ → Option Connection) (k : ℕ) (w : World) (c : ℕ) (e : Event) (quiet : IsQuiet e) (st : RoomsStand rooms xs k w) where
  abbrev after_put : Option Part → ℕ → Option Part
  after_put z = update nat_eq w.parts c z

  put_here : (z : Option Part) → after_put z c ≡ z
  put_here z = update_here w.parts c z

  put_apart : (z : Option Part) (d : ℕ) → d ≢ c → after_put z d ≡ w.parts d
  put_apart z d ne = update_apart w.parts c z d ne

  -- nothing has changed
  unchanged : ((d : ℕ) → now d ≡ rooms d) → (parts : ℕ → Option Part) → ((d : ℕ) → parts d ≡ w.parts d) → RoomsStand now xs k (record { parts = parts; places = w.places })
  unchanged same parts same_parts = stands_changed rooms now xs k w parts c (record {
    other_rooms = λ d ne. same d;
    other_parts = λ d ne. same_parts d;
    room = subst (λ (r : Option Room). RoomStands r (parts c)) (sym (same c)) (subst (RoomStands (rooms c)) (sym (same_parts c)) (st.of_rooms c));
    arrivals = λ n. ap (λ (z : Option Part). arrival_in z n) (same_parts c);
    came = λ n x a live h. subst (λ (r : Option Room). CameTo r x a) (sym (same c)) h;
  }) st

  put_back : (z : Option Part) → w.parts c ≡ z → (d : ℕ) (b : Bool) → (d == c) ≡ b → after_put z d ≡ w.parts d
  put_back z is d true h = ap (after_put z) (eqb-true d c h) ∙ put_here z ∙ sym is ∙ ap w.parts (sym (eqb-true d c h))
  put_back z is d false h = put_apart z d (eqb-false d c h)

  -- the part was refused, and the room is as it was
  pub stands_refused : ((d : ℕ) → now d ≡ rooms d) → (z : Option Part) → w.parts c ≡ z → RoomsStand now xs k (record { parts = after_put z; places = w.places })
  stands_refused same z is = unchanged same (after_put z) (λ d. put_back z is d (d == c) refl)

  room_broken : (r new : Room) (z : Option Part) → RoomStands (Some r) z → new.ledger.is_broken ≡ true → new.ledger.config ≡ r.ledger.config → RoomStands (Some new) z
  room_broken r new None h b config = h
  room_broken r new (Some p) h b config = (config ∙ h.0, λ sound. absurd (apart (sym b ∙ sound)))
    where
      apart : true ≡ false → ⊥
      apart x = cc

  -- the room is broken off, and nothing is said of it
  pub stands_broken : (r new : Room) → rooms c ≡ Some r → ((d : ℕ) → d ≢ c → now d ≡ rooms d) → now c ≡ Some new → new.ledger.is_broken ≡ true → new.ledger.config ≡ r.ledger.config → RoomsStand now xs k w
  stands_broken r new is others here broken config = stands_changed rooms now xs k w w.parts c (record {
    other_rooms = others;
    other_parts = λ d ne. refl;
    room = subst (λ (x : Option Room). RoomStands x (w.parts c)) (sym here) (room_broken r new (w.parts c) (subst (λ (x : Option Room). RoomStands x (w.parts c)) is (st.of_rooms c)) broken config);
    arrivals = λ n. refl;
    came = λ n x a live h. subst (λ (y : Option Room). CameTo y x a) (sym here) (came-broken (rooms c) new broken x a h);
  }) st

  -- the room and the part have taken the event
  pub stands_taken : (r new : Room) (p : Part) → rooms c ≡ Some r → w.parts c ≡ Some p → ((d : ℕ) → d ≢ c → now d ≡ rooms d) → now c ≡ Some new →
      r.ledger.is_broken ≡ false → new.ledger.config ≡ r.ledger.config → new.ledger.journal ≡ r.ledger.journal ++ e ∷ [] →
      RoomsStand now xs k (record { parts = after_put (Some (with_events p (e ∷ []))); places = w.places })
  stands_taken r new p is was others here sound config journal =
      let before : RoomStands (Some r) (Some p) = subst (RoomStands (Some r)) was (subst (λ (x : Option Room). RoomStands x (w.parts c)) is (st.of_rooms c)) in
      stands_changed rooms now xs k w (after_put (Some (with_events p (e ∷ [])))) c (record {
        other_rooms = others;
        other_parts = put_apart (Some (with_events p (e ∷ [])));
        room = subst (λ (x : Option Room). RoomStands x (after_put (Some (with_events p (e ∷ []))) c)) (sym here)
            (subst (RoomStands (Some new)) (sym (put_here (Some (with_events p (e ∷ [])))))
            (config ∙ before.0, λ b. journal ∙ ap (λ (es : List Event). es ++ e ∷ []) (before.1 sound)));
        arrivals = λ n. ap (λ (z : Option Part). arrival_in z n) (put_here (Some (with_events p (e ∷ [])))) ∙ ap (λ (z : Option Part). arrival_in z n) (sym was);
        came = λ n x a live h. subst (λ (y : Option Room). CameTo y x a) (sym here)
            (came-quiet r new e quiet sound journal x a (subst (λ (y : Option Room). CameTo y x a) is h));
      }) st

-- what a conference offers that is asked to add an event
abbrev pub offered : Event → Option Part → world.Offered
offered e None = world.refuses None NoConference
offered e (Some p) = world.add_event p e (refused p e)

module _ (rooms now : ℕ → Option Room) (xs : ℕ → Option Connection) (k : ℕ) (w : World) (c : ℕ) (e : Event) (quiet : IsQuiet e) (st : RoomsStand rooms xs k w) where
  -- the turn with this offer
  abbrev TurnIs : world.Offered → Answer → Type 0
  TurnIs o a = RoomsStand now xs k (put w c o).world × ((put w c o).answer ≡ a)

  abbrev pub Acted : Answer → Type 0
  Acted a = TurnIs (offered e (w.parts c)) a

  abbrev pub ActFails : HubRefusal → Type 0
  ActFails r = (IsWant (put w c (offered e (w.parts c))).answer r × RoomsStand now xs k w) ⊎ Acted (Refused r)

  pub act_absent : rooms c ≡ None → ((d : ℕ) → now d ≡ rooms d) → Acted (Refused NoConference)
  act_absent is same = subst (λ (z : Option Part). TurnIs (offered e z) (Refused NoConference)) (sym gone) (stands_refused rooms now xs k w c e quiet st same None gone, refl)
    where
      by : (z : Option Part) → RoomStands None z → z ≡ None
      by None h = refl
      by (Some p) h = absurd h

      gone : w.parts c ≡ None
      gone = by (w.parts c) (subst (λ (x : Option Room). RoomStands x (w.parts c)) is (st.of_rooms c))

  act_taken : (r new : Room) (z : Option Part) → w.parts c ≡ z → rooms c ≡ Some r → ((d : ℕ) → d ≢ c → now d ≡ rooms d) → now c ≡ Some new → Applied r new e → RoomStands (Some r) z →
      TurnIs (offered e z) Done
  act_taken r new None was is others here t h = absurd h
  act_taken r new (Some p) was is others here t h =
      let sound : r.ledger.is_broken ≡ false = sound-by r e None r.ledger.is_broken refl t.allowed (λ x. cc) in
      let open_too : refused p e ≡ None = sym (refusal-part r p e sound h.0 (h.1 sound)) ∙ t.allowed in
      subst (λ (x : Option RoomRefusal). TurnIs (world.add_event p e x) Done) (sym open_too)
      (stands_taken rooms now xs k w c e quiet st r new p is was others here sound (ap (λ (x : Room). x.ledger.config) t.next) (ap (λ (x : Room). x.ledger.journal) t.next), refl)

  pub act_done : (r new : Room) → rooms c ≡ Some r → ((d : ℕ) → d ≢ c → now d ≡ rooms d) → now c ≡ Some new → Applied r new e → Acted Done
  act_done r new is others here t =
      act_taken r new (w.parts c) refl is others here t (subst (λ (x : Option Room). RoomStands x (w.parts c)) is (st.of_rooms c))

  pub same_all : (r new : Room) → rooms c ≡ Some r → ((d : ℕ) → d ≢ c → now d ≡ rooms d) → now c ≡ Some new → new ≡ r → (d : ℕ) (b : Bool) → (d == c) ≡ b → now d ≡ rooms d
  same_all r new is others here same d true h =
      ap now (eqb-true d c h) ∙ here ∙ ap (λ (x : Room). Some x) same ∙ sym is ∙ ap rooms (sym (eqb-true d c h))
  same_all r new is others here same d false h = others d (eqb-false d c h)

  act_refused_part : (r : Room) (why : RoomRefusal) (z : Option Part) → w.parts c ≡ z → ((d : ℕ) → now d ≡ rooms d) → r.ledger.is_broken ≡ false → refusal r.ledger e ≡ Some why → RoomStands (Some r) z →
      TurnIs (offered e z) (Refused (ByRoom why))
  act_refused_part r why None was same sound is h = absurd h
  act_refused_part r why (Some p) was same sound is h =
      let closed_too : refused p e ≡ Some why = sym (refusal-part r p e sound h.0 (h.1 sound)) ∙ is in
      subst (λ (x : Option RoomRefusal). TurnIs (world.add_event p e x) (Refused (ByRoom why))) (sym closed_too)
      (stands_refused rooms now xs k w c e quiet st same (Some p) was, refl)

  -- the room has refused it, and is as it was
  act_refused : (r new : Room) (why : RoomRefusal) → rooms c ≡ Some r → ((d : ℕ) → d ≢ c → now d ≡ rooms d) → now c ≡ Some new → IsRefusedBy {T = Unit {0}} (refusal r.ledger e) (Err why) →
      why ≢ ByMachine Memory → why ≢ ByMachine Broken → new ≡ r → ActFails (ByRoom why)
  act_refused r new why is others here refused_by no_memory whole same =
      let some : refusal r.ledger e ≡ Some why = refused-some r e why (refusal r.ledger e) refl refused_by no_memory in
      let sound : r.ledger.is_broken ≡ false = sound-by r e (Some why) r.ledger.is_broken refl some (λ x. whole (by why (ByMachine Broken) x)) in
      inr (act_refused_part r why (w.parts c) refl (λ d. same_all r new is others here same d (d == c) refl) sound some
      (subst (λ (x : Option Room). RoomStands x (w.parts c)) is (st.of_rooms c)))
    where
      by : (a b : RoomRefusal) → ◌≡◌ {A = Option RoomRefusal} (Some a) (Some b) → a ≡ b
      by a b x = cc

  pub stays : (r new : Room) → rooms c ≡ Some r → ((d : ℕ) → d ≢ c → now d ≡ rooms d) → now c ≡ Some new → new ≡ r → RoomsStand now xs k w
  stays r new is others here same =
      unchanged rooms now xs k w c e quiet st (λ d. same_all r new is others here same d (d == c) refl) w.parts (λ d. refl)

  pub broken_off : (r new : Room) → rooms c ≡ Some r → ((d : ℕ) → d ≢ c → now d ≡ rooms d) → now c ≡ Some new → (new ≡ broken_room r) ⊎ Began r new e → RoomsStand now xs k w
  broken_off r new is others here (inl same) =
      stands_broken rooms now xs k w c e quiet st r new is others here (ap (λ (x : Room). x.ledger.is_broken) same) (ap (λ (x : Room). x.ledger.config) same)
  broken_off r new is others here (inr began) =
      stands_broken rooms now xs k w c e quiet st r new is others here (ap (λ (x : Room). x.ledger.is_broken) began.next) (ap (λ (x : Room). x.ledger.config) began.next)

  -- the part takes an event that its room doesn't refuse
  would : (r : Room) (z : Option Part) → refusal r.ledger e ≡ None → RoomStands (Some r) z → (put w c (offered e z)).answer ≡ Done
  would r None free h = absurd h
  would r (Some p) free h =
      let sound : r.ledger.is_broken ≡ false = sound-by r e None r.ledger.is_broken refl free (λ x. cc) in
      ap (λ (x : Option RoomRefusal). (put w c (world.add_event p e x)).answer) (sym (refusal-part r p e sound h.0 (h.1 sound)) ∙ free)

  pub act_failed : (r new : Room) (why : RoomRefusal) → rooms c ≡ Some r → ((d : ℕ) → d ≢ c → now d ≡ rooms d) → now c ≡ Some new → IsRefusedBy {T = Unit {0}} (refusal r.ledger e) (Err why) →
      Left r new e why → ActFails (ByRoom why)
  act_failed r new JournalFull is others here by left = act_refused r new JournalFull is others here by (λ x. cc) (λ x. cc) left
  act_failed r new (ByMachine Broken) is others here by left = inl (inr refl, stays r new is others here left)
  act_failed r new (ByMachine Ended) is others here by left = act_refused r new (ByMachine Ended) is others here by (λ x. cc) (λ x. cc) left
  act_failed r new (ByMachine NoMember) is others here by left = act_refused r new (ByMachine NoMember) is others here by (λ x. cc) (λ x. cc) left
  act_failed r new (ByMachine NoUser) is others here by left = act_refused r new (ByMachine NoUser) is others here by (λ x. cc) (λ x. cc) left
  act_failed r new (ByMachine Full) is others here by left = act_refused r new (ByMachine Full) is others here by (λ x. cc) (λ x. cc) left
  act_failed r new (ByMachine NoRequest) is others here by left = act_refused r new (ByMachine NoRequest) is others here by (λ x. cc) (λ x. cc) left
  act_failed r new (ByMachine Cut) is others here by left = act_refused r new (ByMachine Cut) is others here by (λ x. cc) (λ x. cc) left
  act_failed r new (ByMachine BadCount) is others here by left = act_refused r new (ByMachine BadCount) is others here by (λ x. cc) (λ x. cc) left
  act_failed r new (ByMachine OutOfRange) is others here by left = act_refused r new (ByMachine OutOfRange) is others here by (λ x. cc) (λ x. cc) left
  act_failed r new (ByMachine DoubleUser) is others here by left = act_refused r new (ByMachine DoubleUser) is others here by (λ x. cc) (λ x. cc) left
  act_failed r new (ByMachine DoubleFloor) is others here by left = act_refused r new (ByMachine DoubleFloor) is others here by (λ x. cc) (λ x. cc) left
  act_failed r new (ByMachine NoFloor) is others here by left = act_refused r new (ByMachine NoFloor) is others here by (λ x. cc) (λ x. cc) left
  act_failed r new (ByMachine UnknownChair) is others here by left = act_refused r new (ByMachine UnknownChair) is others here by (λ x. cc) (λ x. cc) left
  act_failed r new (ByMachine Memory) is others here by left = inl (
    inl (refl, λ idle. subst IsIdle (would r (w.parts c) (allowed r.ledger e by) (subst (λ (x : Option Room). RoomStands x (w.parts c)) is (st.of_rooms c))) idle),
    broken_off r new is others here left,
  )

  -- what a refused act has left of a room
  abbrev pub FailedAt : Room → Room → HubRefusal → Type 0
  FailedAt r new x = (why : RoomRefusal) × (x ≡ ByRoom why) × IsRefusedBy {T = Unit {0}} (refusal r.ledger e) (Err why) × Left r new e why

  acted_at : (res : Result (Unit {0}) HubRefusal) (r new : Room) → rooms c ≡ Some r → ((d : ℕ) → d ≢ c → now d ≡ rooms d) → now c ≡ Some new → OnOk res (Applied r new e) → IfErr res (FailedAt r new) →
      MatchResult res (λ _. Acted Done) ActFails
  acted_at (Ok v) r new is others here ok err = act_done r new is others here ok
  acted_at (Err x) r new is others here ok err = subst ActFails (sym err.1) (act_failed r new err.0 is others here err.2 err.3)

  -- what the act in the room is in the world
  pub acted : (res : Result (Unit {0}) HubRefusal) (y : Option Room) → rooms c ≡ y → (rooms c ≡ None → (res ≡ Err NoConference) × ((d : ℕ) → now d ≡ rooms d)) →
      ((r : Room) → rooms c ≡ Some r → (new : Room) × (now c ≡ Some new) × ((d : ℕ) → nat_eq c d ≡ false → now d ≡ rooms d) × OnOk res (Applied r new e) × IfErr res (FailedAt r new)) →
      MatchResult res (λ _. Acted Done) ActFails
  acted res None is absent there =
      let a = absent is in
      subst (λ (x : Result (Unit {0}) HubRefusal). MatchResult x (λ _. Acted Done) ActFails) (sym a.0) (inr (act_absent is a.1))
  acted res (Some r) is absent there =
      let t = there r is in
      acted_at res r t.0 is (λ d ne. t.2 d (ne_eqb c d (λ x. ne (sym x)))) t.1 t.3 t.4

-- what an act in the room is in the world
pub admin_acted : (rooms now : ℕ → Option Room) (xs : ℕ → Option Connection) (k : ℕ) (w : World) (c : ℕ) (act : Act) (st : RoomsStand rooms xs k w) (res : Result (Unit {0}) HubRefusal) →
    MatchResult res (λ _. Acted rooms now xs k w c (event_of_act act) (quiet-act act) st Done) (ActFails rooms now xs k w c (event_of_act act) (quiet-act act) st) →
    MatchResult res (λ _. RoomsStand now xs k (turn w (Admin c act)).world × ((turn w (Admin c act)).answer ≡ Done))
    (λ r. (IsWant (turn w (Admin c act)).answer r × RoomsStand now xs k w) ⊎ (RoomsStand now xs k (turn w (Admin c act)).world × ((turn w (Admin c act)).answer ≡ Refused r)))
admin_acted rooms now xs k w c act st res h =
    subst (λ (o : world.Offered). MatchResult res (λ _. RoomsStand now xs k (put w c o).world × ((put w c o).answer ≡ Done))
    (λ r. (IsWant (put w c o).answer r × RoomsStand now xs k w) ⊎ (RoomsStand now xs k (put w c o).world × ((put w c o).answer ≡ Refused r))))
    (same (w.parts c)) h
  where
    same : (z : Option Part) → offered (event_of_act act) z ≡ offer z (Admin c act)
    same None = refl
    same (Some p) = refl
