-- A piece that comes is a step of the world.
use Rattle.std.proofs.Common.{◌≡◌, ◌≢◌, ◌⊎◌, inl, inr, ℕ, zero, suc, ◌<◌, ◌≤◌, Bool, true, false, List, ◌++◌, length, refl, sym, ◌∙◌, ap, subst, arith, append_assoc, Some, None, get_or-set_other, get_or-set_same}
use Rattle.std.specs.Prelude.{Option, slice_get, slice_set, nat_eq}
use Rattle.std.specs.Map.{update}
use Rattle.std.proofs.lemmas.Option.{none-some, slice_get-get_or, slice_get_past, slice_get_within}
use Rattle.std.proofs.lemmas.List.{length-set}
use Rattle.std.proofs.lemmas.Bool.{eqb-true, eqb-false, ne_eqb}
use Rattle.std.specs.Prelude.{Result, Ok, Err, MatchResult, OnErr}
use Rattle.std.proofs.lemmas.Map.{update_here, update_apart}
use Rattle.floor_room.specs.Room.{Room}
use Rattle.floor_hub.specs.declared.refusal.HubRefusal.{HubRefusal}
use Rattle.floor_hub.specs.declared.refusal.HubRefusal.TheVariants.{NoConnection, Memory}
use Rattle.std.specs.List.{concat}
use Rattle.floor_hub.specs.World.{IsIdle, messages_of}
use Rattle.floor_hub.specs.declared.connection.Connection.{Connection}
use Rattle.floor_hub.specs.declared.step.Step.TheVariants.{Piece}
use Rattle.floor_hub.specs.declared.step.Answer.TheVariants.{Done, Refused}
use Rattle.floor_hub.specs.Connections.{Connections, Puts, connection_at}
use Rattle.floor_hub.specs.World as world
use Rattle.floor_hub.specs.World.{Part, Arrival, World, Place, Turn, place, arrival, if_live, turn, turn_at, put, offer, aim}
use Rattle.floor_hub.specs.StandsFor.{arrival_in, live_at, RoomStands, CameTo, ArrivalStands, NumberStands}
use Rattle.floor_hub.proofs.Standing.{RoomsStand}
use Rattle.floor_hub.proofs.Changes.{changed}

lt_or_le : (m n : ℕ) → (m < n) ⊎ (n ≤ m)
lt_or_le m zero = inr (omega arith)
lt_or_le zero (suc n) = inl (omega arith)
lt_or_le (suc m) (suc n) = elim (lt_or_le m n) [ inl h ↦ inl (omega (arith, h)) | inr h ↦ inr (omega (arith, h)) ]

get_set_other : (xs : List Arrival) (i j : ℕ) (a : Arrival) → j ≢ i → slice_get (slice_set xs i a) j ≡ slice_get xs j
get_set_other xs i j a ne = elim (lt_or_le j (length xs)) [
  | inl h ↦
      let within : j < length (slice_set xs i a) = omega (arith, h, length-set xs i a) in
      slice_get-get_or (slice_set xs i a) j a within ∙ ap Some (rw get_or-set_other refl) ∙ sym (slice_get-get_or xs j a h)
  | inr h ↦
      let past : length (slice_set xs i a) ≤ j = omega (arith, h, length-set xs i a) in
      slice_get_past (slice_set xs i a) j past ∙ sym (slice_get_past xs j h)
]

get_set_same : (xs : List Arrival) (i : ℕ) (a : Arrival) → i < length xs → slice_get (slice_set xs i a) i ≡ Some a
get_set_same xs i a h =
    let within : i < length (slice_set xs i a) = omega (arith, h, length-set xs i a) in
    slice_get-get_or (slice_set xs i a) i a within ∙ ap Some (rw get_or-set_same refl)

pub arrival_set : (part : Part) (n : ℕ) (a b : Arrival) → arrival part n ≡ Some b → arrival (world.with_arrival part n a) n ≡ Some a
arrival_set part zero a b e = absurd (none-some b e)
arrival_set part (suc j) a b e = get_set_same part.arrivals j a (slice_get_within part.arrivals j b e)

pub arrival_set_other : (part : Part) (n m : ℕ) (a : Arrival) → m ≢ n → arrival (world.with_arrival part n a) m ≡ arrival part m
arrival_set_other part n zero a ne = refl
arrival_set_other part zero (suc j) a ne = refl
arrival_set_other part (suc i) (suc j) a ne = get_set_other part.arrivals i j a (λ e. ne (ap suc e))

abbrev is_live : Option Arrival → Bool
is_live None = false
is_live (Some a) = a.live

live_when : (b a : Arrival) (live : Bool) → b.live ≡ live → if_live (Some b) ≡ Some a → (◌≡◌ {A = Option Arrival} (Some b) (Some a)) × (a.live ≡ true)
live_when b a true h e =
    let kept : if_live (Some b) ≡ Some b = rw h refl in
    let same : ◌≡◌ {A = Option Arrival} (Some b) (Some a) = sym kept ∙ e in
    (same, sym (ap is_live same) ∙ h)
live_when b a false h e = let gone : if_live (Some b) ≡ None = rw h refl in absurd (none-some a (sym gone ∙ e))

-- a live arrival is there
pub live_there : (x : Option Arrival) (a : Arrival) → if_live x ≡ Some a → (x ≡ Some a) × (a.live ≡ true)
live_there None a e = absurd (none-some a e)
live_there (Some b) a e = live_when b a b.live refl e

-- the same parts in another spelling
number_again : (rooms : ℕ → Option Room) (parts again : ℕ → Option Part) → ((d : ℕ) → again d ≡ parts d)
    → (x : Option Connection) (y : Option Place) → NumberStands rooms parts x y → NumberStands rooms again x y
number_again rooms parts again same x None h = h
number_again rooms parts again same x (Some p) h = subst (λ z. ArrivalStands rooms p x (if_live (arrival_in z p.n))) (sym (same p.conference)) h

pub stands_again : (rooms : ℕ → Option Room) (xs : ℕ → Option Connection) (k : ℕ) (w : World) (again : ℕ → Option Part)
    → ((d : ℕ) → again d ≡ w.parts d) → RoomsStand rooms xs k w → RoomsStand rooms xs k (record { parts = again; places = w.places })
stands_again rooms xs k w again same st = record {
  of_rooms = λ d. subst (λ z. RoomStands (rooms d) z) (sym (same d)) (st.of_rooms d);
  count = st.count;
  numbers = λ j. number_again rooms w.parts again same (xs j) (place w.places j) (st.numbers j);
  apart = st.apart;
}

put_same : (f : ℕ → Option Part) (c d : ℕ) (b : Bool) → nat_eq d c ≡ b → update nat_eq f c (f c) d ≡ f d
put_same f c d true e = ap (update nat_eq f c (f c)) (eqb-true d c e) ∙ update_here f c (f c) ∙ ap f (sym (eqb-true d c e))
put_same f c d false e = update_apart f c (f c) d (eqb-false d c e)

-- the turn is refused so, and what stood before stands after
abbrev RefusesPiece : (ℕ → Option Room) → (ℕ → Option Connection) → ℕ → Turn → Type 0
RefusesPiece rooms xs k t = RoomsStand rooms xs k t.world × (t.answer ≡ Refused NoConnection)

offer_dead : (part : Option Part) (n : ℕ) (bytes : List ℕ) → if_live (arrival_in part n) ≡ None → offer part (Piece n bytes) ≡ world.refuses part NoConnection
offer_dead None n bytes e = refl
offer_dead (Some part) n bytes e = ap (world.piece part n bytes) e

dead_at : (rooms : ℕ → Option Room) (p : Place) (a : Option Arrival) → ArrivalStands rooms p None a → a ≡ None
dead_at rooms p None h = refl
dead_at rooms p (Some a) h = absurd h

absent_at : (rooms : ℕ → Option Room) (xs : ℕ → Option Connection) (k : ℕ) (w : World) (bytes : List ℕ) (y : Option Place)
    → RoomsStand rooms xs k w → NumberStands rooms w.parts None y → RefusesPiece rooms xs k (turn_at w (aim (λ n. Piece n bytes) y))
absent_at rooms xs k w bytes None st h = (st, refl)
absent_at rooms xs k w bytes (Some p) st h =
    subst (λ o. RefusesPiece rooms xs k (put w p.conference o)) (sym (offer_dead (w.parts p.conference) p.n bytes (dead_at rooms p (live_at w.parts p) h)))
    (stands_again rooms xs k w (update nat_eq w.parts p.conference (w.parts p.conference)) (λ d. put_same w.parts p.conference d (nat_eq d p.conference) refl) st, refl)

pub piece_absent : (rooms : ℕ → Option Room) (xs : ℕ → Option Connection) (k : ℕ) (w : World) (number : ℕ) (bytes : List ℕ)
    → RoomsStand rooms xs k w → xs number ≡ None → RefusesPiece rooms xs k (turn w (Piece number bytes))
piece_absent rooms xs k w number bytes st e =
    absent_at rooms xs k w bytes (place w.places number) st (subst (λ x. NumberStands rooms w.parts x (place w.places number)) e (st.numbers number))

abbrev pub longer : Connection → List ℕ → Connection
longer x bytes = record { conference = x.conference; n = x.n; held = x.held ++ bytes }

abbrev TakesPiece : (ℕ → Option Room) → (ℕ → Option Connection) → ℕ → Turn → Type 0
TakesPiece rooms xs k t = RoomsStand rooms xs k t.world × (t.answer ≡ Done)

came_more : (r : Option Room) (x : Connection) (a : Arrival) (bytes : List ℕ) → CameTo r x a
    → CameTo r (longer x bytes) (record { bytes = a.bytes ++ bytes; served = a.served; live = a.live })
came_more None x a bytes h = tt
came_more (Some r) x a bytes h = λ sound. record {
  bytes = ap (λ s. s ++ bytes) (h sound).bytes ∙ append_assoc (concat (messages_of x.n r.ledger.journal)) x.held bytes;
  served = (h sound).served;
}

room_again : (r : Option Room) (p q : Part) → p.config ≡ q.config → p.events ≡ q.events → RoomStands r (Some p) → RoomStands r (Some q)
room_again None p q e f h = h
room_again (Some r) p q e f h = (h.0 ∙ e, λ sound. h.1 sound ∙ f)

module _ (rooms : ℕ → Option Room) (xs now_xs : ℕ → Option Connection) (k : ℕ) (w : World) (number : ℕ) (bytes : List ℕ) (x : Connection) where
  live_piece : (p : Place) (part : Part) (a : Arrival) → RoomsStand rooms xs k w
      → ((j : ℕ) → j ≢ number → now_xs j ≡ xs j) → now_xs number ≡ Some (longer x bytes)
      → place w.places number ≡ Some p → w.parts p.conference ≡ Some part → if_live (arrival part p.n) ≡ Some a → ArrivalStands rooms p (Some x) (Some a)
      → TakesPiece rooms now_xs k (put w p.conference (world.piece part p.n bytes (Some a)))
  live_piece p part a st others now at_place was live h =
      let there : (arrival part p.n ≡ Some a) × (a.live ≡ true) = live_there (arrival part p.n) a live in
      let b : Arrival = record { bytes = a.bytes ++ bytes; served = a.served; live = a.live } in
      let set : arrival (world.with_arrival part p.n b) p.n ≡ Some b = arrival_set part p.n b a there.0 in
      let still : if_live (Some b) ≡ Some b = rw there.1 refl in
      let own : ArrivalStands rooms p (Some (longer x bytes)) (Some b) = (h.0, h.1, came_more (rooms p.conference) x a bytes h.2) in (
        changed rooms rooms xs now_xs k w number p part (world.with_arrival part p.n b) st (record {
          at_place = at_place;
          was = was;
          other_rooms = λ d ne. refl;
          other_numbers = others;
          other_arrivals = λ n ne. arrival_set_other part p.n n b ne;
          other_came = λ y c ne came. came;
          room = room_again (rooms p.conference) part (world.with_arrival part p.n b) refl refl (subst (λ z. RoomStands (rooms p.conference) z) was (st.of_rooms p.conference));
          own = subst (λ y. ArrivalStands rooms p y (if_live (arrival (world.with_arrival part p.n b) p.n))) (sym now)
              (subst (λ z. ArrivalStands rooms p (Some (longer x bytes)) z) (sym (ap if_live set ∙ still)) own);
        }),
        refl,
      )

  arrival_piece : (p : Place) (part : Part) (a : Option Arrival) → RoomsStand rooms xs k w
      → ((j : ℕ) → j ≢ number → now_xs j ≡ xs j) → now_xs number ≡ Some (longer x bytes)
      → place w.places number ≡ Some p → w.parts p.conference ≡ Some part → if_live (arrival part p.n) ≡ a → ArrivalStands rooms p (Some x) a
      → TakesPiece rooms now_xs k (put w p.conference (world.piece part p.n bytes a))
  arrival_piece p part None st others now at_place was live h = absurd h
  arrival_piece p part (Some a) st others now at_place was live h = live_piece p part a st others now at_place was live h

  part_piece : (p : Place) (z : Option Part) → RoomsStand rooms xs k w
      → ((j : ℕ) → j ≢ number → now_xs j ≡ xs j) → now_xs number ≡ Some (longer x bytes)
      → place w.places number ≡ Some p → w.parts p.conference ≡ z → ArrivalStands rooms p (Some x) (if_live (arrival_in z p.n))
      → TakesPiece rooms now_xs k (put w p.conference (offer z (Piece p.n bytes)))
  part_piece p None st others now at_place was h = absurd h
  part_piece p (Some part) st others now at_place was h = arrival_piece p part (if_live (arrival part p.n)) st others now at_place was refl h

  place_piece : (y : Option Place) → RoomsStand rooms xs k w
      → ((j : ℕ) → j ≢ number → now_xs j ≡ xs j) → now_xs number ≡ Some (longer x bytes)
      → place w.places number ≡ y → NumberStands rooms w.parts (Some x) y
      → TakesPiece rooms now_xs k (turn_at w (aim (λ n. Piece n bytes) y))
  place_piece None st others now at_place h = absurd (none-some x (sym h))
  place_piece (Some p) st others now at_place h = part_piece p (w.parts p.conference) st others now at_place refl h

  pub piece_present : RoomsStand rooms xs k w → xs number ≡ Some x
      → ((j : ℕ) → j ≢ number → now_xs j ≡ xs j) → now_xs number ≡ Some (longer x bytes)
      → TakesPiece rooms now_xs k (turn w (Piece number bytes))
  piece_present st e others now =
      place_piece (place w.places number) st others now refl (subst (λ y. NumberStands rooms w.parts y (place w.places number)) e (st.numbers number))

-- the same connections in another spelling
connections_again : (rooms : ℕ → Option Room) (xs again : ℕ → Option Connection) (k : ℕ) (w : World)
    → ((q : ℕ) → again q ≡ xs q) → RoomsStand rooms xs k w → RoomsStand rooms again k w
connections_again rooms xs again k w same st = record {
  of_rooms = st.of_rooms;
  count = st.count;
  numbers = λ j. subst (λ x. NumberStands rooms w.parts x (place w.places j)) (sym (same j)) (st.numbers j);
  apart = st.apart;
}

module _ (rooms : ℕ → Option Room) (cs now_cs : Connections) (k : ℕ) (w : World) (number : ℕ) (bytes : List ℕ) where
  abbrev xs : ℕ → Option Connection
  xs = connection_at cs

  abbrev now_xs : ℕ → Option Connection
  now_xs = connection_at now_cs

  abbrev pub FailsPiece : HubRefusal → Type 0
  FailsPiece r = (((r ≡ Memory) × (¬ IsIdle (turn w (Piece number bytes)).answer)) × RoomsStand rooms now_xs k w) ⊎ (RoomsStand rooms now_xs k (turn w (Piece number bytes)).world × ((turn w (Piece number bytes)).answer ≡ Refused r))

  ok_err : (v : Unit {0}) → ◌≡◌ {A = Result (Unit {0}) HubRefusal} (Ok v) (Err NoConnection) → ⊥
  ok_err v e = cc

  err_is : (r : HubRefusal) → ◌≡◌ {A = Result (Unit {0}) HubRefusal} (Err r) (Err NoConnection) → r ≡ NoConnection
  err_is r e = cc

  -- bytes of a live connection are taken
  busy : (x : Connection) → RoomsStand rooms xs k w → xs number ≡ Some x → ¬ IsIdle (turn w (Piece number bytes)).answer
  busy x st e =
      let more : ℕ → Option Connection = update nat_eq xs number (Some (longer x bytes)) in
      let taken = piece_present rooms xs more k w number bytes x st e (update_apart xs number (Some (longer x bytes))) (update_here xs number (Some (longer x bytes))) in
      λ idle. subst IsIdle taken.1 idle

  pub piece_result : (res : Result (Unit {0}) HubRefusal) (y : Option Connection) → xs number ≡ y → RoomsStand rooms xs k w
      → (xs number ≡ None → res ≡ Err NoConnection)
      → ((x : Connection) → xs number ≡ Some x → MatchResult res (λ _. Puts cs now_cs number (Some (longer x bytes))) (λ r. r ≡ Memory))
      → OnErr res ((q : ℕ) → now_xs q ≡ xs q)
      → MatchResult res (λ _. TakesPiece rooms now_xs k (turn w (Piece number bytes))) FailsPiece
  piece_result (Ok v) None e st absent ok err = absurd (ok_err v (absent e))
  piece_result (Ok v) (Some x) e st absent ok err =
      piece_present rooms xs now_xs k w number bytes x st e (λ j ne. (ok x e).others j (ne_eqb number j (λ g. ne (sym g)))) (ok x e).here
  piece_result (Err r) None e st absent ok err =
      let t : RefusesPiece rooms xs k (turn w (Piece number bytes)) = piece_absent rooms xs k w number bytes st e in
      inr (connections_again rooms xs now_xs k (turn w (Piece number bytes)).world err t.0, t.1 ∙ ap Refused (sym (err_is r (absent e))))
  piece_result (Err r) (Some x) e st absent ok err = inl ((ok x e, busy x st e), connections_again rooms xs now_xs k w err st)
