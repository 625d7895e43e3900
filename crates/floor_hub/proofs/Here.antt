-- A live connection of a hub, its arrival and its room.
use Rattle.std.proofs.Common.{◌≡◌, ℕ, Bool, true, false, List, [], ◌∷◌, ◌++◌, refl, sym, ◌∙◌, ap, subst, append_assoc, Some, None}
use Rattle.std.specs.Prelude.{Option, ◌==◌, if◌then◌else◌, nat_eq}
use Rattle.std.specs.List.{concat}
use Rattle.std.specs.Map.{update}
use Rattle.std.proofs.lemmas.Option.{none-some}
use Rattle.floor_machine.specs.declared.event.Event.{Event}
use Rattle.floor_machine.specs.declared.event.Event.TheVariants.{Join, Message, Took as Takes, Leave as Leaves, Revoke, Close, AddUser, AddFloor, SetChair, Say as Says}
use Rattle.floor_room.specs.Room.{Room}
use Rattle.floor_hub.specs.declared.refusal.HubRefusal.TheVariants.{NoConnection}
use Rattle.floor_hub.specs.declared.connection.Connection.{Connection}
use Rattle.floor_hub.specs.declared.step.Step.{Step}
use Rattle.floor_hub.specs.declared.step.Answer.TheVariants.{Refused}
use Rattle.floor_hub.specs.World as world
use Rattle.floor_hub.specs.World.{World, Part, Arrival, Place, aim, arrival, if_live, messages_of, offer, place, put, turn_at}
use Rattle.floor_hub.specs.StandsFor.{arrival_in, live_at, RoomStands, Came, CameTo, ArrivalStands, NumberStands}
use Rattle.floor_hub.proofs.Standing.{RoomsStand}
use Rattle.floor_hub.proofs.Pieces.{live_there, stands_again}
use Rattle.floor_hub.proofs.Changed.{put_back}

-- where a connection stands
pub record Here (rooms : ℕ → Option Room) (w : World) (number : ℕ) (x : Connection) : Type 0 where
  pub p : Place
  pub part : Part
  pub a : Arrival
  pub r : Room
  pub at_place : place w.places number ≡ Some p
  pub was : w.parts p.conference ≡ Some part
  pub there : arrival part p.n ≡ Some a
  pub live : a.live ≡ true
  pub alive : if_live (arrival part p.n) ≡ Some a
  pub conference : x.conference ≡ p.conference
  pub n : x.n ≡ p.n
  pub room : rooms p.conference ≡ Some r
  pub stands : RoomStands (Some r) (Some part)
  pub came : r.ledger.is_broken ≡ false → Came r x a

module _ (rooms : ℕ → Option Room) (w : World) (number : ℕ) (x : Connection) where
  at_room : (p : Place) (part : Part) (a : Arrival) (y : Option Room) → rooms p.conference ≡ y → place w.places number ≡ Some p → w.parts p.conference ≡ Some part →
      if_live (arrival part p.n) ≡ Some a → RoomStands y (Some part) → x.conference ≡ p.conference → x.n ≡ p.n → CameTo y x a → Here rooms w number x
  at_room p part a None is at_place was live stands c n came = absurd stands
  at_room p part a (Some r) is at_place was live stands c n came =
      let both = live_there (arrival part p.n) a live in
      record {
        p = p;
        part = part;
        a = a;
        r = r;
        at_place = at_place;
        was = was;
        there = both.0;
        live = both.1;
        alive = live;
        conference = c;
        n = n;
        room = is;
        stands = stands;
        came = came;
      }

  at_arrival : (p : Place) (part : Part) (a : Option Arrival) → place w.places number ≡ Some p → w.parts p.conference ≡ Some part →
      if_live (arrival part p.n) ≡ a → RoomStands (rooms p.conference) (Some part) → ArrivalStands rooms p (Some x) a → Here rooms w number x
  at_arrival p part None at_place was live stands h = absurd h
  at_arrival p part (Some a) at_place was live stands h = at_room p part a (rooms p.conference) refl at_place was live stands h.0 h.1 h.2

  at_part : (p : Place) (z : Option Part) → place w.places number ≡ Some p → w.parts p.conference ≡ z →
      RoomStands (rooms p.conference) z → ArrivalStands rooms p (Some x) (if_live (arrival_in z p.n)) → Here rooms w number x
  at_part p None at_place was stands h = absurd h
  at_part p (Some part) at_place was stands h = at_arrival p part (if_live (arrival part p.n)) at_place was refl stands h

  at_number : (y : Option Place) → place w.places number ≡ y → ((c : ℕ) → RoomStands (rooms c) (w.parts c)) → NumberStands rooms w.parts (Some x) y → Here rooms w number x
  at_number None at_place stands h = absurd (none-some x (sym h))
  at_number (Some p) at_place stands h = at_part p (w.parts p.conference) at_place refl (stands p.conference) h

pub here : (rooms : ℕ → Option Room) (xs : ℕ → Option Connection) (k : ℕ) (w : World) (number : ℕ) (x : Connection) → RoomsStand rooms xs k w → xs number ≡ Some x → Here rooms w number x
here rooms xs k w number x st e =
    at_number rooms w number x (place w.places number) refl st.of_rooms (subst (λ (y : Option Connection). NumberStands rooms w.parts y (place w.places number)) e (st.numbers number))

-- no live connection has the number: nothing has changed
abbrev pub RefusesHere : (ℕ → Option Room) → (ℕ → Option Connection) → ℕ → World → (ℕ → Step) → ℕ → Type 0
RefusesHere rooms xs k w step number =
    RoomsStand rooms xs k (turn_at w (aim step (place w.places number))).world × ((turn_at w (aim step (place w.places number))).answer ≡ Refused NoConnection)

-- a step that a connection is wanted for
abbrev pub WantsLive : (ℕ → Step) → Type 0
WantsLive step = (z : Option Part) (n : ℕ) → if_live (arrival_in z n) ≡ None → offer z (step n) ≡ world.refuses z NoConnection

module _ (rooms : ℕ → Option Room) (xs : ℕ → Option Connection) (k : ℕ) (w : World) (step : ℕ → Step) (wants : WantsLive step) where
  dead : (p : Place) (a : Option Arrival) → ArrivalStands rooms p None a → a ≡ None
  dead p None h = refl
  dead p (Some a) h = absurd h

  abbrev Refuses : world.Turn → Type 0
  Refuses t = RoomsStand rooms xs k t.world × (t.answer ≡ Refused NoConnection)

  gone_at : (y : Option Place) → RoomsStand rooms xs k w → NumberStands rooms w.parts None y → Refuses (turn_at w (aim step y))
  gone_at None st h = (st, refl)
  gone_at (Some p) st h =
      subst (λ (o : world.Offered). Refuses (put w p.conference o)) (sym (wants (w.parts p.conference) p.n (dead p (live_at w.parts p) h)))
      (stands_again rooms xs k w (update nat_eq w.parts p.conference (w.parts p.conference)) (λ d. put_back w p.conference (w.parts p.conference) refl d (d == p.conference) refl) st, refl)

  pub gone : (number : ℕ) → RoomsStand rooms xs k w → xs number ≡ None → RefusesHere rooms xs k w step number
  gone number st e = gone_at (place w.places number) st (subst (λ (y : Option Connection). NumberStands rooms w.parts y (place w.places number)) e (st.numbers number))

-- the messages of n, list by list
pub messages-append : (n : ℕ) (es fs : List Event) → messages_of n (es ++ fs) ≡ messages_of n es ++ messages_of n fs
messages-append n [] fs = refl
messages-append n (Join user ∷ es) fs = messages-append n es fs
messages-append n (Message m bytes ∷ es) fs = by (m == n) (messages-append n es fs)
  where
    by : (b : Bool) → messages_of n (es ++ fs) ≡ messages_of n es ++ messages_of n fs →
        (if b then bytes ∷ messages_of n (es ++ fs) else messages_of n (es ++ fs)) ≡ (if b then bytes ∷ messages_of n es else messages_of n es) ++ messages_of n fs
    by true h = ap (λ (x : List (List ℕ)). bytes ∷ x) h
    by false h = h
messages-append n (Takes m k ∷ es) fs = messages-append n es fs
messages-append n (Leaves m ∷ es) fs = messages-append n es fs
messages-append n (Revoke request ∷ es) fs = messages-append n es fs
messages-append n (Close ∷ es) fs = messages-append n es fs
messages-append n (AddUser user ∷ es) fs = messages-append n es fs
messages-append n (AddFloor floor ∷ es) fs = messages-append n es fs
messages-append n (SetChair floor chair ∷ es) fs = messages-append n es fs
messages-append n (Says user bytes ∷ es) fs = messages-append n es fs

pub concat-append : (xs ys : List (List ℕ)) → concat (xs ++ ys) ≡ concat xs ++ concat ys
concat-append [] ys = refl
concat-append (x ∷ xs) ys = ap (λ (z : List ℕ). x ++ z) (concat-append xs ys) ∙ sym (append_assoc x (concat xs) (concat ys))
