-- A step that changes one arrival, and its conference's events.
use Rattle.std.proofs.Common.{◌≡◌, ◌≢◌, ℕ, Bool, true, false, refl, sym, ◌∙◌, ap, subst, Some, None}
use Rattle.std.specs.Prelude.{Option, ◌==◌, nat_eq}
use Rattle.std.specs.Map.{update}
use Rattle.std.proofs.lemmas.Bool.{eqb-true, eqb-false}
use Rattle.std.proofs.lemmas.Map.{update_here, update_apart}
use Rattle.floor_room.specs.Room.{Room}
use Rattle.floor_hub.specs.declared.connection.Connection.{Connection}
use Rattle.floor_hub.specs.World.{Part, Arrival, World, Place, place, arrival, if_live}
use Rattle.floor_hub.specs.StandsFor.{arrival_in, live_at, RoomStands, CameTo, ArrivalStands, NumberStands}
use Rattle.floor_hub.proofs.Standing.{RoomsStand}

same_place : (p q : Place) → q.conference ≡ p.conference → q.n ≡ p.n → q ≡ p
same_place p q e f = ap (λ c. record { conference = c; n = q.n }) e ∙ ap (λ m. record { conference = p.conference; n = m }) f

-- what one step changes: the part of the place p, and the connection numbered number
pub record Changes (rooms now_rooms : ℕ → Option Room) (xs now_xs : ℕ → Option Connection) (w : World) (number : ℕ) (p : Place) (part now_part : Part) : Type 0 where
  pub at_place : place w.places number ≡ Some p
  pub was : w.parts p.conference ≡ Some part
  pub other_rooms : (d : ℕ) → d ≢ p.conference → now_rooms d ≡ rooms d
  pub other_numbers : (j : ℕ) → j ≢ number → now_xs j ≡ xs j
  pub other_arrivals : (n : ℕ) → n ≢ p.n → arrival now_part n ≡ arrival part n
  pub other_came : (x : Connection) (a : Arrival) → x.n ≢ p.n → CameTo (rooms p.conference) x a → CameTo (now_rooms p.conference) x a
  pub room : RoomStands (now_rooms p.conference) (Some now_part)
  pub own : ArrivalStands now_rooms p (now_xs number) (if_live (arrival now_part p.n))

arrival_keeps : (rooms now_rooms : ℕ → Option Room) (q : Place) (x : Option Connection) (a : Option Arrival)
    → ((x : Connection) (a : Arrival) → x.n ≡ q.n → CameTo (rooms q.conference) x a → CameTo (now_rooms q.conference) x a)
    → ArrivalStands rooms q x a → ArrivalStands now_rooms q x a
arrival_keeps rooms now_rooms q None None keeps h = tt
arrival_keeps rooms now_rooms q None (Some a) keeps h = h
arrival_keeps rooms now_rooms q (Some x) None keeps h = h
arrival_keeps rooms now_rooms q (Some x) (Some a) keeps h = (h.0, h.1, keeps x a h.1 h.2)

abbrev now_parts : World → Place → Part → ℕ → Option Part
now_parts w p part = update nat_eq w.parts p.conference (Some part)

-- another place of the same conference, or one of another conference
elsewhere : (rooms now_rooms : ℕ → Option Room) (xs now_xs : ℕ → Option Connection) (w : World) (number : ℕ) (p : Place) (part now_part : Part)
    → Changes rooms now_rooms xs now_xs w number p part now_part
    → (q : Place) (x : Option Connection) (b : Bool) → (q.conference == p.conference) ≡ b → (q ≡ p → ⊥)
    → ArrivalStands rooms q x (live_at w.parts q) → ArrivalStands now_rooms q x (live_at (now_parts w p now_part) q)
elsewhere rooms now_rooms xs now_xs w number p part now_part ch q x true e ne h =
    let same : q.conference ≡ p.conference = eqb-true q.conference p.conference e in
    let other : q.n ≢ p.n = λ f. ne (same_place p q same f) in
    let now : now_parts w p now_part q.conference ≡ Some now_part = ap (now_parts w p now_part) same ∙ update_here w.parts p.conference (Some now_part) in
    let before : w.parts q.conference ≡ Some part = ap w.parts same ∙ ch.was in
    let live : live_at (now_parts w p now_part) q ≡ live_at w.parts q =
    ap (λ y. if_live (arrival_in y q.n)) now ∙ ap if_live (ch.other_arrivals q.n other) ∙ sym (ap (λ y. if_live (arrival_in y q.n)) before) in
    subst (λ a. ArrivalStands now_rooms q x a) (sym live)
    (arrival_keeps rooms now_rooms q x (live_at w.parts q)
    (λ y a f came. subst (λ d. CameTo (now_rooms d) y a) (sym same) (ch.other_came y a (λ g. other (sym f ∙ g)) (subst (λ d. CameTo (rooms d) y a) same came)))
    h)
elsewhere rooms now_rooms xs now_xs w number p part now_part ch q x false e ne h =
    let other : q.conference ≢ p.conference = eqb-false q.conference p.conference e in
    let now : now_parts w p now_part q.conference ≡ w.parts q.conference = update_apart w.parts p.conference (Some now_part) q.conference other in
    let live : live_at (now_parts w p now_part) q ≡ live_at w.parts q = ap (λ y. if_live (arrival_in y q.n)) now in
    subst (λ a. ArrivalStands now_rooms q x a) (sym live)
    (arrival_keeps rooms now_rooms q x (live_at w.parts q) (λ y a f came. subst (λ r. CameTo r y a) (sym (ch.other_rooms q.conference other)) came) h)

-- another number
other_number : (rooms now_rooms : ℕ → Option Room) (xs now_xs : ℕ → Option Connection) (w : World) (number : ℕ) (p : Place) (part now_part : Part)
    → Changes rooms now_rooms xs now_xs w number p part now_part
    → (j : ℕ) (y : Option Place) → (y ≡ Some p → ⊥) → NumberStands rooms w.parts (xs j) y → NumberStands now_rooms (now_parts w p now_part) (xs j) y
other_number rooms now_rooms xs now_xs w number p part now_part ch j None ne h = h
other_number rooms now_rooms xs now_xs w number p part now_part ch j (Some q) ne h =
    elsewhere rooms now_rooms xs now_xs w number p part now_part ch q (xs j) (q.conference == p.conference) refl (λ e. ne (ap Some e)) h

each_number : (rooms now_rooms : ℕ → Option Room) (xs now_xs : ℕ → Option Connection) (k : ℕ) (w : World) (number : ℕ) (p : Place) (part now_part : Part)
    → RoomsStand rooms xs k w → Changes rooms now_rooms xs now_xs w number p part now_part
    → (j : ℕ) (b : Bool) → (j == number) ≡ b → NumberStands now_rooms (now_parts w p now_part) (now_xs j) (place w.places j)
each_number rooms now_rooms xs now_xs k w number p part now_part st ch j true e =
    let same : j ≡ number = eqb-true j number e in
    subst (λ i. NumberStands now_rooms (now_parts w p now_part) (now_xs i) (place w.places i)) (sym same)
    (subst (λ y. NumberStands now_rooms (now_parts w p now_part) (now_xs number) y) (sym ch.at_place)
    (subst (λ z. ArrivalStands now_rooms p (now_xs number) (if_live (arrival_in z p.n))) (sym (update_here w.parts p.conference (Some now_part))) ch.own))
each_number rooms now_rooms xs now_xs k w number p part now_part st ch j false e =
    let other : j ≢ number = eqb-false j number e in
    subst (λ x. NumberStands now_rooms (now_parts w p now_part) x (place w.places j)) (sym (ch.other_numbers j other))
    (other_number rooms now_rooms xs now_xs w number p part now_part ch j (place w.places j) (λ f. other (st.apart j number p f ch.at_place)) (st.numbers j))

each_room : (rooms now_rooms : ℕ → Option Room) (xs now_xs : ℕ → Option Connection) (k : ℕ) (w : World) (number : ℕ) (p : Place) (part now_part : Part)
    → RoomsStand rooms xs k w → Changes rooms now_rooms xs now_xs w number p part now_part
    → (d : ℕ) (b : Bool) → (d == p.conference) ≡ b → RoomStands (now_rooms d) (now_parts w p now_part d)
each_room rooms now_rooms xs now_xs k w number p part now_part st ch d true e =
    subst (λ i. RoomStands (now_rooms i) (now_parts w p now_part i)) (sym (eqb-true d p.conference e))
    (subst (λ z. RoomStands (now_rooms p.conference) z) (sym (update_here w.parts p.conference (Some now_part))) ch.room)
each_room rooms now_rooms xs now_xs k w number p part now_part st ch d false e =
    let other : d ≢ p.conference = eqb-false d p.conference e in
    subst (λ r. RoomStands r (now_parts w p now_part d)) (sym (ch.other_rooms d other))
    (subst (λ z. RoomStands (rooms d) z) (sym (update_apart w.parts p.conference (Some now_part) d other)) (st.of_rooms d))

pub changed : (rooms now_rooms : ℕ → Option Room) (xs now_xs : ℕ → Option Connection) (k : ℕ) (w : World) (number : ℕ) (p : Place) (part now_part : Part)
    → RoomsStand rooms xs k w → Changes rooms now_rooms xs now_xs w number p part now_part
    → RoomsStand now_rooms now_xs k (record { parts = now_parts w p now_part; places = w.places })
changed rooms now_rooms xs now_xs k w number p part now_part st ch = record {
  of_rooms = λ d. each_room rooms now_rooms xs now_xs k w number p part now_part st ch d (d == p.conference) refl;
  count = st.count;
  numbers = λ j. each_number rooms now_rooms xs now_xs k w number p part now_part st ch j (j == number) refl;
  apart = st.apart;
}
