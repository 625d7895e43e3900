-- A connection that is attached.
use Rattle.std.proofs.Common.{◌≡◌, ◌≢◌, ◌⊎◌, inl, inr, ℕ, zero, suc, ◌+◌, ◌<◌, ◌≤◌, Bool, true, false, List, [], ◌∷◌, ◌++◌, length, refl, sym, ◌∙◌, ap, subst, arith, length-append, append-nil, Some, None}
use Rattle.std.specs.Prelude.{Option, ◌==◌, is_some, slice_get, nat_eq, if◌then◌else◌, Result, Ok, Err, IfErr, OnOk, MatchResult}
use Rattle.std.specs.List.{concat}
use Rattle.std.specs.Map.{update}
use Rattle.std.proofs.lemmas.Bool.{eqb-true, eqb-false, ne_eqb}
use Rattle.std.proofs.lemmas.Bool.Decides.{nat_tests}
use Rattle.std.proofs.lemmas.Option.{none-some}
use Rattle.std.proofs.lemmas.Map.{update_here, update_apart}
use Rattle.floor_machine.specs.declared.event.Event.{Event}
use Rattle.floor_machine.specs.declared.event.Event.TheVariants.{Join, Message, Took as Takes, Leave as Leaves, Revoke, Close, AddUser, AddFloor, SetChair, Say as Says}
use Rattle.floor_machine.specs.declared.machine.Refusal.TheVariants.{Broken, Ended, NoMember, NoUser, Full, NoRequest, Cut, BadCount, Memory, OutOfRange, DoubleUser, DoubleFloor, NoFloor, UnknownChair}
use Rattle.floor_machine.specs.declared.member.Member.{Member}
use Rattle.floor_machine.specs.Conference.{Conference, member_with, opening}
use Rattle.floor_machine.specs.Journal.{IsLawfulFrom, after, after_from}
use Rattle.floor_machine.specs.Conference.{is_numbered_from}
use Rattle.floor_machine.specs.Next.{next}
use Rattle.floor_machine.proofs.Found.{and_left, and_right}
use Rattle.floor_machine.proofs.Staying.{members-next}
use Rattle.floor_machine.proofs.Sent.{numbered-next}
use Rattle.floor_room.specs.declared.refusal.RoomRefusal.{RoomRefusal}
use Rattle.floor_room.specs.declared.refusal.RoomRefusal.TheVariants.{JournalFull, Refused as ByMachine}
use Rattle.floor_room.specs.Ledger.{conference_of}
use Rattle.floor_room.specs.Room.{Room}
use Rattle.floor_room.specs.Ledger.{IsRefusedBy, refusal}
use Rattle.floor_room.specs.Calls.{Applied, Left}
use Rattle.floor_hub.specs.declared.refusal.HubRefusal.{HubRefusal}
use Rattle.floor_hub.specs.declared.refusal.HubRefusal.TheVariants.{NoConference, ByRoom}
use Rattle.floor_hub.specs.declared.connection.Connection.{Connection}
use Rattle.floor_hub.specs.declared.step.Step.TheVariants.{Attach}
use Rattle.floor_hub.specs.declared.step.Answer.{Answer}
use Rattle.floor_hub.specs.declared.step.Answer.TheVariants.{Attached, Refused}
use Rattle.floor_hub.specs.World as world
use Rattle.floor_hub.specs.World.{IsIdle, World, Part, Arrival, Place, Offered, arrival, if_live, messages_of, offer, place, put, refused, state_of, turn}
use Rattle.floor_hub.specs.StandsFor.{arrival_in, live_at, RoomStands, CameTo, ArrivalStands, NumberStands}
use Rattle.floor_hub.proofs.Standing.{RoomsStand}
use Rattle.floor_hub.specs.steps.Serving.{AttachFailsIn}
use Rattle.floor_hub.specs.Kept.{IsKept, IsKeptPart, KeptIn}
use Rattle.floor_hub.proofs.Acting.{IsQuiet, broken-refuses, refusal-part, refused-some, sound-by, stands_broken, stands_refused}
use Rattle.floor_hub.proofs.Alone.{last_place}
use Rattle.floor_hub.proofs.Attending.{came_apart, left_broken, part_state, same_at, true_false}
use Rattle.floor_hub.proofs.Here.{messages-append}
use Rattle.floor_hub.proofs.Keeping.{members_of}
use Rattle.floor_hub.proofs.Places.{number_within}
use Rattle.floor_hub.proofs.Changed.{connections_again, rooms_again}
use Rattle.floor_hub.specs.Calls.{IsWant}
use Rattle.floor_hub.proofs.Wanting.{allowed}

-- no member has a number above theirs
absent : (ms : List Member) (k n : ℕ) → is_numbered_from k ms ≡ true → k + length ms ≤ n → is_some (member_with ms n) ≡ false
absent [] k n h l = refl
absent (m ∷ ms) k n h l = rw differs (absent ms (k + 1) n (and_right _ _ h) (omega arith))
  where
    apart : (a k n : ℕ) → (a == k) ≡ true → k < n → (a == n) ≡ false
    apart a k n e l = grind (arith, nat_tests)

    differs : (m.n == n) ≡ false
    differs = apart m.n k n (and_left (m.n == k) (is_numbered_from (k + 1) ms) h) (omega arith)

grow : (s : Conference) (es : List Event) → length s.members ≤ length (after_from s es).members
grow s [] = omega arith
grow s (e ∷ es) = omega (arith, grow (next s e) es, members-next s e)

-- nobody has sent a message before it joins
messages_before : (s : Conference) (es : List Event) (n : ℕ) → is_numbered_from 1 s.members ≡ true → IsLawfulFrom s es → length (after_from s es).members < n → messages_of n es ≡ []
messages_before s [] n h l few = refl
messages_before s (Join user ∷ es) n h l few = messages_before (next s (Join user)) es n (numbered-next s (Join user) h) l.1 few
messages_before s (Message m bytes ∷ es) n h l few = by (m == n) refl (messages_before (next s (Message m bytes)) es n (numbered-next s (Message m bytes) h) l.1 few)
  where
    none : is_some (member_with s.members n) ≡ false
    none = absent s.members 1 n h (omega (arith, few, grow s (Message m bytes ∷ es)))

    by : (b : Bool) → (m == n) ≡ b → messages_of n es ≡ [] → (if b then bytes ∷ messages_of n es else messages_of n es) ≡ []
    by true e rest = absurd (true_false (sym l.0.1 ∙ ap (λ (i : ℕ). is_some (member_with s.members i)) (eqb-true m n e) ∙ none))
    by false e rest = rest
messages_before s (Takes m k ∷ es) n h l few = messages_before (next s (Takes m k)) es n (numbered-next s (Takes m k) h) l.1 few
messages_before s (Leaves m ∷ es) n h l few = messages_before (next s (Leaves m)) es n (numbered-next s (Leaves m) h) l.1 few
messages_before s (Revoke request ∷ es) n h l few = messages_before (next s (Revoke request)) es n (numbered-next s (Revoke request) h) l.1 few
messages_before s (Close ∷ es) n h l few = messages_before (next s Close) es n (numbered-next s Close h) l.1 few
messages_before s (AddUser user ∷ es) n h l few = messages_before (next s (AddUser user)) es n (numbered-next s (AddUser user) h) l.1 few
messages_before s (AddFloor floor ∷ es) n h l few = messages_before (next s (AddFloor floor)) es n (numbered-next s (AddFloor floor) h) l.1 few
messages_before s (SetChair floor chair ∷ es) n h l few = messages_before (next s (SetChair floor chair)) es n (numbered-next s (SetChair floor chair) h) l.1 few
messages_before s (Says user bytes ∷ es) n h l few = messages_before (next s (Says user bytes)) es n (numbered-next s (Says user bytes) h) l.1 few

push_apart : {A : Type 0} (xs : List A) (x : A) (k : ℕ) → k ≢ length xs → slice_get (xs ++ x ∷ []) k ≡ slice_get xs k
push_apart [] x zero ne = absurd (ne refl)
push_apart [] x (suc k) ne = refl
push_apart (y ∷ xs) x zero ne = refl
push_apart (y ∷ xs) x (suc k) ne = push_apart xs x k (λ e. ne (ap suc e))

push_last : {A : Type 0} (xs : List A) (x : A) → slice_get (xs ++ x ∷ []) (length xs) ≡ Some x
push_last [] x = refl
push_last (y ∷ xs) x = push_last xs x

-- the number of an arrival is no more than the arrivals of its conference
place_within : (w : World) → IsKept w → (c : ℕ) (p : Part) → w.parts c ≡ Some p → (j : ℕ) (q : Place) → place w.places j ≡ Some q → q.conference ≡ c → q.n ≤ length p.arrivals
place_within w kept c p was zero q is same = absurd (none-some q is)
place_within w kept c p was (suc j) q is same = (number_within w kept c (Some p) was j q is same).1

place_apart : (ps : List Place) (q : Place) (j : ℕ) → j ≢ length ps + 1 → place (ps ++ q ∷ []) j ≡ place ps j
place_apart ps q zero ne = refl
place_apart ps q (suc j) ne = push_apart ps q j (λ e. ne (omega (arith, e)))

quiet_join : (user : ℕ) → IsQuiet (Join user)
quiet_join user = λ n. refl

module _ (rooms now : ℕ → Option Room) (xs now_xs : ℕ → Option Connection) (k : ℕ) (w : World) (c user : ℕ) (st : RoomsStand rooms xs k w) (kept : IsKept w) where
  abbrev TurnIs : ℕ → Offered → Answer → Type 0
  TurnIs m o a = RoomsStand now now_xs m (put w c o).world × ((put w c o).answer ≡ a)

  abbrev pub AttachIs : ℕ → Answer → Type 0
  AttachIs m a = RoomsStand now now_xs m (turn w (Attach c user)).world × ((turn w (Attach c user)).answer ≡ a)

  module _ (r new : Room) (p : Part) (is : rooms c ≡ Some r) (was : w.parts c ≡ Some p) (here : now c ≡ Some new) (others : (d : ℕ) → d ≢ c → now d ≡ rooms d) (t : Applied r new (Join user))
      (now_here : now_xs (k + 1) ≡ Some (record { conference = c; n = length (conference_of r.ledger).members + 1; held = [] })) (other_xs : (j : ℕ) → j ≢ k + 1 → now_xs j ≡ xs j) where
    abbrev x : Connection
    x = record { conference = c; n = length (conference_of r.ledger).members + 1; held = [] }

    abbrev q : Place
    q = record { conference = c; n = length p.arrivals + 1 }

    abbrev a : Arrival
    a = record { bytes = []; served = 0; live = true }

    abbrev parts : ℕ → Option Part
    parts = update nat_eq w.parts c (Some (world.joined p user))

    abbrev places : List Place
    places = w.places ++ q ∷ []

    part_here : parts c ≡ Some (world.joined p user)
    part_here = update_here w.parts c (Some (world.joined p user))

    part_apart : (d : ℕ) → d ≢ c → parts d ≡ w.parts d
    part_apart d ne = update_apart w.parts c (Some (world.joined p user)) d ne

    stands : RoomStands (Some r) (Some p)
    stands = subst (RoomStands (Some r)) was (subst (λ (y : Option Room). RoomStands y (w.parts c)) is (st.of_rooms c))

    kept_part : IsKeptPart p
    kept_part = subst KeptIn was (kept.parts c)

    sound : r.ledger.is_broken ≡ false
    sound = sound-by r (Join user) None r.ledger.is_broken refl t.allowed (λ e. cc)

    journal : new.ledger.journal ≡ r.ledger.journal ++ Join user ∷ []
    journal = ap (λ (y : Room). y.ledger.journal) t.next

    same_n : x.n ≡ q.n
    same_n = ap (λ (i : ℕ). i + 1) (ap (λ (s : Conference). length s.members) (part_state r p stands.0 (stands.1 sound)) ∙ sym (members_of p kept_part))

    lawful : IsLawfulFrom (opening p.config) r.ledger.journal
    lawful = subst (IsLawfulFrom (opening p.config)) (sym (stands.1 sound)) kept_part.journal.lawful

    silent : messages_of x.n new.ledger.journal ≡ []
    silent =
        ap (messages_of x.n) journal ∙ messages-append x.n r.ledger.journal (Join user ∷ []) ∙ append-nil (messages_of x.n r.ledger.journal)
        ∙ messages_before (opening p.config) r.ledger.journal x.n refl lawful
        (omega (arith, ap (λ c. length (after c r.ledger.journal).members) stands.0))

    own : ArrivalStands now q (Some x) (if_live (arrival_in (parts c) q.n))
    own =
        let at : arrival_in (parts c) q.n ≡ Some a = ap (λ (z : Option Part). arrival_in z q.n) part_here ∙ last (length p.arrivals + 1) refl in
        let came : CameTo (Some new) x a = λ e. record {
          bytes = ap (λ (ms : List (List ℕ)). concat ms ++ []) (sym silent);
          served = ap (λ (ms : List (List ℕ)). length ms) (sym silent);
        } in
        subst (ArrivalStands now q (Some x)) (sym (ap if_live at)) (refl, same_n, subst (λ (y : Option Room). CameTo y x a) (sym here) came)
      where
        last : (i : ℕ) → i ≡ length p.arrivals + 1 → arrival (world.joined p user) i ≡ Some a
        last zero e = absurd (omega (arith, e))
        last (suc i) e = ap (slice_get (p.arrivals ++ a ∷ [])) (suc_same i (length p.arrivals) e) ∙ push_last p.arrivals a
          where
            suc_same : (i j : ℕ) → suc i ≡ j + 1 → i ≡ j
            suc_same i j e = omega (arith, e)

    -- another arrival
    other_arrival : (o : Place) → o ≢ q → (o.conference ≡ c → o.n ≤ length p.arrivals) → (y : Option Connection) → (b : Bool) → (o.conference == c) ≡ b →
        ArrivalStands rooms o y (live_at w.parts o) → ArrivalStands now o y (live_at parts o)
    other_arrival o ne within y true e h =
        let same : o.conference ≡ c = eqb-true o.conference c e in
        let less : arrival (world.joined p user) o.n ≡ arrival p o.n = before o.n (within same) in
        let live : live_at parts o ≡ live_at w.parts o =
        ap (λ (d : ℕ). if_live (arrival_in (parts d) o.n)) same ∙ ap (λ (z : Option Part). if_live (arrival_in z o.n)) part_here ∙ ap if_live less
        ∙ sym (ap (λ (z : Option Part). if_live (arrival_in z o.n)) was) ∙ ap (λ (d : ℕ). if_live (arrival_in (w.parts d) o.n)) (sym same) in
        subst (ArrivalStands now o y) (sym live) (keeps o same y (live_at w.parts o) h)
      where
        before : (i : ℕ) → i ≤ length p.arrivals → arrival (world.joined p user) i ≡ arrival p i
        before zero l = refl
        before (suc i) l = push_apart p.arrivals a i (λ e. less_not i (length p.arrivals) l e)
          where
            less_not : (i j : ℕ) → suc i ≤ j → i ≡ j → ⊥
            less_not i j l e = omega (arith, l, e)

        keeps : (o : Place) → o.conference ≡ c → (y : Option Connection) (z : Option Arrival) → ArrivalStands rooms o y z → ArrivalStands now o y z
        keeps o same None None h = tt
        keeps o same None (Some z) h = h
        keeps o same (Some y) None h = h
        keeps o same (Some y) (Some z) h = (
          h.0,
          h.1,
          subst (λ (u : Option Room). CameTo u y z) (sym (ap now same ∙ here)) (came_apart r new (Join user) y z sound journal refl (subst (λ (u : Option Room). CameTo u y z) (ap rooms same ∙ is) h.2)),
        )
    other_arrival o ne within y false e h =
        let apart : o.conference ≢ c = eqb-false o.conference c e in
        let live : live_at parts o ≡ live_at w.parts o = ap (λ (z : Option Part). if_live (arrival_in z o.n)) (part_apart o.conference apart) in
        subst (ArrivalStands now o y) (sym live) (keeps apart y (live_at w.parts o) h)
      where
        keeps : o.conference ≢ c → (y : Option Connection) (z : Option Arrival) → ArrivalStands rooms o y z → ArrivalStands now o y z
        keeps apart None None h = tt
        keeps apart None (Some z) h = h
        keeps apart (Some y) None h = h
        keeps apart (Some y) (Some z) h = (h.0, h.1, subst (λ (u : Option Room). CameTo u y z) (sym (others o.conference apart)) h.2)

    not_new : (j : ℕ) (o : Place) → place w.places j ≡ Some o → o ≢ q
    not_new j o at e =
        let less : o.n ≤ length p.arrivals = place_within w kept c p was j o at (ap (λ (u : Place). u.conference) e) in
        too_far o.n (length p.arrivals) less (ap (λ (u : Place). u.n) e)
      where
        too_far : (i m : ℕ) → i ≤ m → i ≡ m + 1 → ⊥
        too_far i m l e = omega (arith, l, e)

    other_number : (j : ℕ) (o : Option Place) → place w.places j ≡ o → (y : Option Connection) → NumberStands rooms w.parts y o → NumberStands now parts y o
    other_number j None at y h = h
    other_number j (Some o) at y h = other_arrival o (not_new j o at) (λ same. place_within w kept c p was j o at same) y (o.conference == c) refl h

    last_is : k + 1 ≡ length w.places + 1
    last_is = ap (λ (i : ℕ). i + 1) st.count

    at_last : place places (k + 1) ≡ Some q
    at_last = last_place w.places q (k + 1) last_is

    each_number : (j : ℕ) (b : Bool) → (j == (k + 1)) ≡ b → NumberStands now parts (now_xs j) (place places j)
    each_number j true e =
        subst (λ (i : ℕ). NumberStands now parts (now_xs i) (place places i)) (sym (eqb-true j (k + 1) e))
        (subst (λ (y : Option Connection). NumberStands now parts y (place places (k + 1))) (sym now_here) (subst (NumberStands now parts (Some x)) (sym at_last) own))
    each_number j false e =
        let ne : j ≢ k + 1 = eqb-false j (k + 1) e in
        subst (λ (y : Option Connection). NumberStands now parts y (place places j)) (sym (other_xs j ne))
        (subst (NumberStands now parts (xs j)) (sym (place_apart w.places q j (λ f. ne (f ∙ sym last_is)))) (other_number j (place w.places j) refl (xs j) (st.numbers j)))

    each_room : (d : ℕ) (b : Bool) → (d == c) ≡ b → RoomStands (now d) (parts d)
    each_room d true e =
        subst (λ (i : ℕ). RoomStands (now i) (parts i)) (sym (eqb-true d c e))
        (subst (λ (y : Option Room). RoomStands y (parts c)) (sym here) (subst (RoomStands (Some new)) (sym part_here)
        (ap (λ (y : Room). y.ledger.config) t.next ∙ stands.0, λ f. journal ∙ ap (λ (es : List Event). es ++ Join user ∷ []) (stands.1 sound))))
    each_room d false e =
        let ne : d ≢ c = eqb-false d c e in
        subst (λ (y : Option Room). RoomStands y (parts d)) (sym (others d ne)) (subst (RoomStands (rooms d)) (sym (part_apart d ne)) (st.of_rooms d))

    both_apart : (i j : ℕ) (o : Place) (a b : Bool) → (i == (k + 1)) ≡ a → (j == (k + 1)) ≡ b → place places i ≡ Some o → place places j ≡ Some o → i ≡ j
    both_apart i j o true true e f g h = eqb-true i (k + 1) e ∙ sym (eqb-true j (k + 1) f)
    both_apart i j o true false e f g h =
        let new_one : Some o ≡ Some q = sym g ∙ ap (place places) (eqb-true i (k + 1) e) ∙ at_last in
        absurd (not_new j o (sym (place_apart w.places q j (λ u. eqb-false j (k + 1) f (u ∙ sym last_is))) ∙ h) (some o q new_one))
      where
        some : (u v : Place) → ◌≡◌ {A = Option Place} (Some u) (Some v) → u ≡ v
        some u v e = cc
    both_apart i j o false true e f g h =
        let new_one : Some o ≡ Some q = sym h ∙ ap (place places) (eqb-true j (k + 1) f) ∙ at_last in
        absurd (not_new i o (sym (place_apart w.places q i (λ u. eqb-false i (k + 1) e (u ∙ sym last_is))) ∙ g) (some o q new_one))
      where
        some : (u v : Place) → ◌≡◌ {A = Option Place} (Some u) (Some v) → u ≡ v
        some u v e = cc
    both_apart i j o false false e f g h =
        st.apart i j o (sym (place_apart w.places q i (λ u. eqb-false i (k + 1) e (u ∙ sym last_is))) ∙ g)
        (sym (place_apart w.places q j (λ u. eqb-false j (k + 1) f (u ∙ sym last_is))) ∙ h)

    joins_stands : RoomsStand now now_xs (k + 1) (record { parts = parts; places = places })
    joins_stands = record {
      of_rooms = λ d. each_room d (d == c) refl;
      count = last_is ∙ sym (length-append w.places (q ∷ []));
      numbers = λ j. each_number j (j == (k + 1)) refl;
      apart = λ i j o g h. both_apart i j o (i == (k + 1)) (j == (k + 1)) refl refl g h;
    }

    attached_at : TurnIs (k + 1) (offer (Some p) (Attach c user)) (Attached (k + 1))
    attached_at =
        let taken : refused p (Join user) ≡ None = sym (refusal-part r p (Join user) sound stands.0 (stands.1 sound)) ∙ t.allowed in
        subst (λ (z : Option RoomRefusal). TurnIs (k + 1) (world.attach p user z) (Attached (k + 1))) (sym taken)
        (joins_stands, ap (λ (i : ℕ). Attached i) (sym last_is))

  attached : (r new : Room) (z : Option Part) → w.parts c ≡ z → RoomStands (Some r) z → rooms c ≡ Some r → now c ≡ Some new → ((d : ℕ) → d ≢ c → now d ≡ rooms d) → Applied r new (Join user) →
      now_xs (k + 1) ≡ Some (record { conference = c; n = length (conference_of r.ledger).members + 1; held = [] }) → ((j : ℕ) → j ≢ k + 1 → now_xs j ≡ xs j) →
      TurnIs (k + 1) (offer z (Attach c user)) (Attached (k + 1))
  attached r new None was s is here others t own_x other_x = absurd s
  attached r new (Some p) was s is here others t own_x other_x = attached_at r new p is was here others t own_x other_x

  abbrev pub AttachFails : HubRefusal → Type 0
  AttachFails r = (IsWant (turn w (Attach c user)).answer r × RoomsStand now now_xs k w) ⊎ AttachIs k (Refused r)

  refused_part : (r : Room) (why : RoomRefusal) (z : Option Part) → w.parts c ≡ z → ((d : ℕ) → now d ≡ rooms d) → ((j : ℕ) → now_xs j ≡ xs j) → r.ledger.is_broken ≡ false →
      refusal r.ledger (Join user) ≡ Some why → RoomStands (Some r) z → TurnIs k (offer z (Attach c user)) (Refused (ByRoom why))
  refused_part r why None was same same_xs whole is s = absurd s
  refused_part r why (Some p) was same same_xs whole is s =
      let too : refused p (Join user) ≡ Some why = sym (refusal-part r p (Join user) whole s.0 (s.1 whole)) ∙ is in
      subst (λ (y : Option RoomRefusal). TurnIs k (world.attach p user y) (Refused (ByRoom why))) (sym too)
      (connections_again now xs now_xs k (put w c (world.refuses (Some p) (ByRoom why))).world same_xs (stands_refused rooms now xs k w c (Join user) (quiet_join user) st same (Some p) was), refl)

  broken_off : (r new : Room) → rooms c ≡ Some r → now c ≡ Some new → ((d : ℕ) → d ≢ c → now d ≡ rooms d) → ((j : ℕ) → now_xs j ≡ xs j) → new.ledger.is_broken ≡ true → new.ledger.config ≡ r.ledger.config → RoomsStand now now_xs k w
  broken_off r new is here others same_xs broken config =
      connections_again now xs now_xs k w same_xs (stands_broken rooms now xs k w c (Join user) (quiet_join user) st r new is others here broken config)

  is_memory : (why : RoomRefusal) → (why ≡ ByMachine Memory) ⊎ (why ≢ ByMachine Memory)
  is_memory JournalFull = inr (λ e. cc)
  is_memory (ByMachine Broken) = inr (λ e. cc)
  is_memory (ByMachine Ended) = inr (λ e. cc)
  is_memory (ByMachine NoMember) = inr (λ e. cc)
  is_memory (ByMachine NoUser) = inr (λ e. cc)
  is_memory (ByMachine Full) = inr (λ e. cc)
  is_memory (ByMachine NoRequest) = inr (λ e. cc)
  is_memory (ByMachine Cut) = inr (λ e. cc)
  is_memory (ByMachine BadCount) = inr (λ e. cc)
  is_memory (ByMachine OutOfRange) = inr (λ e. cc)
  is_memory (ByMachine DoubleUser) = inr (λ e. cc)
  is_memory (ByMachine DoubleFloor) = inr (λ e. cc)
  is_memory (ByMachine NoFloor) = inr (λ e. cc)
  is_memory (ByMachine UnknownChair) = inr (λ e. cc)
  is_memory (ByMachine Memory) = inl refl

  left_same : (r new : Room) (e : Event) (why : RoomRefusal) → why ≢ ByMachine Memory → Left r new e why → new ≡ r
  left_same r new e JournalFull ne h = h
  left_same r new e (ByMachine Broken) ne h = h
  left_same r new e (ByMachine Ended) ne h = h
  left_same r new e (ByMachine NoMember) ne h = h
  left_same r new e (ByMachine NoUser) ne h = h
  left_same r new e (ByMachine Full) ne h = h
  left_same r new e (ByMachine NoRequest) ne h = h
  left_same r new e (ByMachine Cut) ne h = h
  left_same r new e (ByMachine BadCount) ne h = h
  left_same r new e (ByMachine OutOfRange) ne h = h
  left_same r new e (ByMachine DoubleUser) ne h = h
  left_same r new e (ByMachine DoubleFloor) ne h = h
  left_same r new e (ByMachine NoFloor) ne h = h
  left_same r new e (ByMachine UnknownChair) ne h = h
  left_same r new e (ByMachine Memory) ne h = absurd (ne refl)

  by_room : (why why2 : RoomRefusal) → why ≡ why2 → ByRoom why ≡ ByRoom why2
  by_room why why2 e = ap (λ (y : RoomRefusal). ByRoom y) e

  some_is : (y z : RoomRefusal) → ◌≡◌ {A = Option RoomRefusal} (Some y) (Some z) → y ≡ z
  some_is y z e = cc

  -- the part takes a user that its room doesn't refuse
  would : (r : Room) (z : Option Part) → refusal r.ledger (Join user) ≡ None → RoomStands (Some r) z → (put w c (offer z (Attach c user))).answer ≡ Attached (length w.places + 1)
  would r None free h = absurd h
  would r (Some p) free h =
      let sound : r.ledger.is_broken ≡ false = sound-by r (Join user) None r.ledger.is_broken refl free (λ x. cc) in
      ap (λ (x : Option RoomRefusal). (put w c (world.attach p user x)).answer) (sym (refusal-part r p (Join user) sound h.0 (h.1 sound)) ∙ free)

  busy : (r : Room) → rooms c ≡ Some r → refusal r.ledger (Join user) ≡ None → ¬ IsIdle (turn w (Attach c user)).answer
  busy r is free = λ idle. subst IsIdle (would r (w.parts c) free (subst (λ (y : Option Room). RoomStands y (w.parts c)) is (st.of_rooms c))) idle

  attach_refused : (r new : Room) (why : RoomRefusal) → rooms c ≡ Some r → now c ≡ Some new → ((d : ℕ) → d ≢ c → now d ≡ rooms d) → ((j : ℕ) → now_xs j ≡ xs j) →
      IsRefusedBy {T = Unit {0}} (refusal r.ledger (Join user)) (Err why) → Left r new (Join user) why → AttachFails (ByRoom why)
  attach_refused r new why is here others same_xs by left = elim (is_memory why) [
    | inl memory ↦
        let broken = left_broken r new (Join user) why memory left in
        let free = allowed r.ledger (Join user) (subst (λ (y : RoomRefusal). IsRefusedBy {T = Unit {0}} (refusal r.ledger (Join user)) (Err y)) memory by) in
        inl (inl (by_room why (ByMachine Memory) memory, busy r is free), broken_off r new is here others same_xs broken.0 broken.1)
    | inr ne ↦ whole ne r.ledger.is_broken refl
  ]
    where
      whole : why ≢ ByMachine Memory → (b : Bool) → r.ledger.is_broken ≡ b → AttachFails (ByRoom why)
      whole ne b e =
          let same : (d : ℕ) → now d ≡ rooms d = same_at rooms now c r new is here (left_same r new (Join user) why ne left) others in
          let some : refusal r.ledger (Join user) ≡ Some why = refused-some r (Join user) why (refusal r.ledger (Join user)) refl by ne in
          cases b e same some
        where
          cases : (b : Bool) → r.ledger.is_broken ≡ b → ((d : ℕ) → now d ≡ rooms d) → refusal r.ledger (Join user) ≡ Some why → AttachFails (ByRoom why)
          cases true e same some =
              inl (
                inr (by_room why (ByMachine Broken) (some_is why (ByMachine Broken) (sym some ∙ broken-refuses r (Join user) e))),
                connections_again now xs now_xs k w same_xs (rooms_again rooms now xs k w w.parts same (λ d. refl) st),
              )
          cases false e same some = inr (refused_part r why (w.parts c) refl same same_xs e some (subst (λ (y : Option Room). RoomStands y (w.parts c)) is (st.of_rooms c)))

  attach_failed : (r new : Room) (why : RoomRefusal) → rooms c ≡ Some r → now c ≡ Some new → ((d : ℕ) → d ≢ c → now d ≡ rooms d) → ((j : ℕ) → now_xs j ≡ xs j) →
      AttachFailsIn r new user why → AttachFails (ByRoom why)
  attach_failed r new why is here others same_xs (inl f) = attach_refused r new why is here others same_xs f.0 f.1
  attach_failed r new why is here others same_xs (inr f) = inl (
    inl (by_room why (ByMachine Memory) f.0, busy r is f.1.1.allowed),
    broken_off r new is here others same_xs (ap (λ (y : Room). y.ledger.is_broken) f.1.2)
        (ap (λ (y : Room). y.ledger.config) f.1.2 ∙ ap (λ (y : Room). y.ledger.config) f.1.1.next),
  )

  no_room : rooms c ≡ None → ((d : ℕ) → now d ≡ rooms d) → ((j : ℕ) → now_xs j ≡ xs j) → AttachIs k (Refused NoConference)
  no_room is same same_xs =
      subst (λ (z : Option Part). TurnIs k (offer z (Attach c user)) (Refused NoConference)) (sym gone)
      (connections_again now xs now_xs k (put w c (world.refuses None NoConference)).world same_xs (stands_refused rooms now xs k w c (Join user) (quiet_join user) st same None gone), refl)
    where
      by : (z : Option Part) → RoomStands None z → z ≡ None
      by None h = refl
      by (Some p) h = absurd h

      gone : w.parts c ≡ None
      gone = by (w.parts c) (subst (λ (y : Option Room). RoomStands y (w.parts c)) is (st.of_rooms c))

  abbrev OwnIs : Room → Type 0
  OwnIs r = (now_xs (k + 1) ≡ Some (record { conference = c; n = length (conference_of r.ledger).members + 1; held = [] })) × ((j : ℕ) → nat_eq (k + 1) j ≡ false → now_xs j ≡ xs j)

  abbrev pub AttachFailsAt : Room → Room → HubRefusal → Type 0
  AttachFailsAt r new y = (why : RoomRefusal) × (y ≡ ByRoom why) × AttachFailsIn r new user why

  made : (res : Result (Unit {0}) HubRefusal) (r new : Room) → rooms c ≡ Some r → now c ≡ Some new → ((d : ℕ) → d ≢ c → now d ≡ rooms d) →
      OnOk res (Applied r new (Join user) × OwnIs r) → IfErr res (AttachFailsAt r new) → (IfErr res (λ _. (j : ℕ) → now_xs j ≡ xs j)) →
      MatchResult res (λ _. AttachIs (k + 1) (Attached (k + 1))) AttachFails
  made (Ok v) r new is here others ok err same_xs =
      attached r new (w.parts c) refl (subst (λ (y : Option Room). RoomStands y (w.parts c)) is (st.of_rooms c)) is here others ok.0 ok.1.0
      (λ j ne. ok.1.1 j (ne_eqb (k + 1) j (λ e. ne (sym e))))
  made (Err y) r new is here others ok err same_xs = subst AttachFails (sym err.1) (attach_failed r new err.0 is here others same_xs err.2)

  -- what attaching is in the world
  pub attach_result : (res : Result (Unit {0}) HubRefusal) (y : Option Room) → rooms c ≡ y →
      (rooms c ≡ None → (res ≡ Err NoConference) × ((d : ℕ) → now d ≡ rooms d)) →
      IfErr res (λ _. (j : ℕ) → now_xs j ≡ xs j) →
      ((r : Room) → rooms c ≡ Some r → (new : Room) × (now c ≡ Some new) × ((d : ℕ) → nat_eq c d ≡ false → now d ≡ rooms d) ×
      OnOk res (Applied r new (Join user) × OwnIs r) × IfErr res (AttachFailsAt r new)) →
      MatchResult res (λ _. AttachIs (k + 1) (Attached (k + 1))) AttachFails
  attach_result res None is absent same_xs there =
      let a = absent is in
      subst (λ (z : Result (Unit {0}) HubRefusal). MatchResult z (λ _. AttachIs (k + 1) (Attached (k + 1))) AttachFails) (sym a.0)
      (inr (no_room is a.1 (subst (λ (z : Result (Unit {0}) HubRefusal). IfErr z (λ _. (j : ℕ) → now_xs j ≡ xs j)) a.0 same_xs)))
  attach_result res (Some r) is absent same_xs there =
      let t = there r is in
      made res r t.0 is t.1 (λ d ne. t.2 d (ne_eqb c d (λ e. ne (sym e)))) t.3 t.4 same_xs
