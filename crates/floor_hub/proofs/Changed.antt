-- One room changes, and its conference's part: all other rooms and connections stay.
use Rattle.std.proofs.Common.{◌≡◌, ◌≢◌, ℕ, Bool, true, false, refl, sym, ◌∙◌, ap, subst, Some, None}
use Rattle.std.specs.Prelude.{Option, ◌==◌, nat_eq}
use Rattle.std.specs.Map.{update}
use Rattle.std.proofs.lemmas.Map.{update_here, update_apart}
use Rattle.std.proofs.lemmas.Bool.{eqb-true, eqb-false}
use Rattle.floor_room.specs.Room.{Room}
use Rattle.floor_hub.specs.declared.connection.Connection.{Connection}
use Rattle.floor_hub.specs.World.{World, Part, Arrival, Place, place, if_live}
use Rattle.floor_hub.specs.StandsFor.{arrival_in, live_at, RoomStands, CameTo, ArrivalStands, NumberStands}
use Rattle.floor_hub.proofs.Standing.{RoomsStand}

-- what changes in the conference c alone
pub record ChangesAt (rooms now : ℕ → Option Room) (w : World) (parts : ℕ → Option Part) (c : ℕ) : Type 0 where
  pub other_rooms : (d : ℕ) → d ≢ c → now d ≡ rooms d
  pub other_parts : (d : ℕ) → d ≢ c → parts d ≡ w.parts d
  pub room : RoomStands (now c) (parts c)
  pub arrivals : (n : ℕ) → arrival_in (parts c) n ≡ arrival_in (w.parts c) n
  pub came : (n : ℕ) (x : Connection) (a : Arrival) → if_live (arrival_in (w.parts c) n) ≡ Some a → CameTo (rooms c) x a → CameTo (now c) x a

module _ (rooms now : ℕ → Option Room) (xs : ℕ → Option Connection) (k : ℕ) (w : World) (parts : ℕ → Option Part) (c : ℕ) where
  room_at : ChangesAt rooms now w parts c → RoomsStand rooms xs k w → (d : ℕ) (b : Bool) → (d == c) ≡ b → RoomStands (now d) (parts d)
  room_at ch st d true e = subst (λ (i : ℕ). RoomStands (now i) (parts i)) (sym (eqb-true d c e)) ch.room
  room_at ch st d false e =
      let ne : d ≢ c = eqb-false d c e in
      subst (λ (r : Option Room). RoomStands r (parts d)) (sym (ch.other_rooms d ne)) (subst (RoomStands (rooms d)) (sym (ch.other_parts d ne)) (st.of_rooms d))

  came_at : ChangesAt rooms now w parts c → (q : Place) (b : Bool) → (q.conference == c) ≡ b → (x : Connection) (a : Arrival) → live_at w.parts q ≡ Some a → CameTo (rooms q.conference) x a → CameTo (now q.conference) x a
  came_at ch q true e x a live h =
      let same : q.conference ≡ c = eqb-true q.conference c e in
      subst (λ (d : ℕ). CameTo (now d) x a) (sym same) (ch.came q.n x a (ap (λ (d : ℕ). if_live (arrival_in (w.parts d) q.n)) (sym same) ∙ live) (subst (λ (d : ℕ). CameTo (rooms d) x a) same h))
  came_at ch q false e x a live h = subst (λ (r : Option Room). CameTo r x a) (sym (ch.other_rooms q.conference (eqb-false q.conference c e))) h

  live_same : ChangesAt rooms now w parts c → (q : Place) (b : Bool) → (q.conference == c) ≡ b → live_at parts q ≡ live_at w.parts q
  live_same ch q true e =
      let same : q.conference ≡ c = eqb-true q.conference c e in
      ap (λ (d : ℕ). if_live (arrival_in (parts d) q.n)) same ∙ ap if_live (ch.arrivals q.n) ∙ ap (λ (d : ℕ). if_live (arrival_in (w.parts d) q.n)) (sym same)
  live_same ch q false e = ap (λ (z : Option Part). if_live (arrival_in z q.n)) (ch.other_parts q.conference (eqb-false q.conference c e))

  arrival_at : ChangesAt rooms now w parts c → (q : Place) (x : Option Connection) (a : Option Arrival) → live_at w.parts q ≡ a → ArrivalStands rooms q x a → ArrivalStands now q x a
  arrival_at ch q None None live h = tt
  arrival_at ch q None (Some a) live h = h
  arrival_at ch q (Some x) None live h = h
  arrival_at ch q (Some x) (Some a) live h = (h.0, h.1, came_at ch q (q.conference == c) refl x a live h.2)

  number_at : ChangesAt rooms now w parts c → (x : Option Connection) (y : Option Place) → NumberStands rooms w.parts x y → NumberStands now parts x y
  number_at ch x None h = h
  number_at ch x (Some q) h =
      subst (ArrivalStands now q x) (sym (live_same ch q (q.conference == c) refl)) (arrival_at ch q x (live_at w.parts q) refl h)

  -- the hub stands for the world with those parts
  pub stands_changed : ChangesAt rooms now w parts c → RoomsStand rooms xs k w → RoomsStand now xs k (record { parts = parts; places = w.places })
  stands_changed ch st = record {
    of_rooms = λ d. room_at ch st d (d == c) refl;
    count = st.count;
    numbers = λ j. number_at ch (xs j) (place w.places j) (st.numbers j);
    apart = st.apart;
  }

-- a part that is put back
pub put_back : (w : World) (c : ℕ) (z : Option Part) → w.parts c ≡ z → (d : ℕ) (b : Bool) → (d == c) ≡ b → update nat_eq w.parts c z d ≡ w.parts d
put_back w c z is d true h = ap (update nat_eq w.parts c z) (eqb-true d c h) ∙ update_here w.parts c z ∙ sym is ∙ ap w.parts (sym (eqb-true d c h))
put_back w c z is d false h = update_apart w.parts c z d (eqb-false d c h)

-- the same rooms and parts in another spelling
pub rooms_again : (rooms now : ℕ → Option Room) (xs : ℕ → Option Connection) (k : ℕ) (w : World) (parts : ℕ → Option Part) →
    ((d : ℕ) → now d ≡ rooms d) → ((d : ℕ) → parts d ≡ w.parts d) → RoomsStand rooms xs k w → RoomsStand now xs k (record { parts = parts; places = w.places })
rooms_again rooms now xs k w parts same same_parts st = stands_changed rooms now xs k w parts 0 (record {
  other_rooms = λ d ne. same d;
  other_parts = λ d ne. same_parts d;
  room = subst (λ (r : Option Room). RoomStands r (parts 0)) (sym (same 0)) (subst (RoomStands (rooms 0)) (sym (same_parts 0)) (st.of_rooms 0));
  arrivals = λ n. ap (λ (z : Option Part). arrival_in z n) (same_parts 0);
  came = λ n x a live h. subst (λ (r : Option Room). CameTo r x a) (sym (same 0)) h;
}) st

-- the same connections in another spelling
pub connections_again : (rooms : ℕ → Option Room) (xs again : ℕ → Option Connection) (k : ℕ) (w : World) →
    ((q : ℕ) → again q ≡ xs q) → RoomsStand rooms xs k w → RoomsStand rooms again k w
connections_again rooms xs again k w same st = record {
  of_rooms = st.of_rooms;
  count = st.count;
  numbers = λ j. subst (λ (x : Option Connection). NumberStands rooms w.parts x (place w.places j)) (sym (same j)) (st.numbers j);
  apart = st.apart;
}
