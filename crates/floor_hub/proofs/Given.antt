-- A parcel that is taken out: the hub stands for the worlds that it stood for.
use Rattle.std.proofs.Common.{◌≡◌, ◌≢◌, ℕ, false, List, refl, sym, ◌∙◌, ap, subst, Some, None}
use Rattle.std.specs.Prelude.{Option, nat_eq}
use Rattle.std.proofs.lemmas.Bool.{ne_eqb}
use Rattle.floor_room.specs.Outbox.{Outbox}
use Rattle.floor_room.specs.Room.{Room}
use Rattle.floor_hub.specs.declared.connection.Connection.{Connection}
use Rattle.floor_hub.specs.World.{World, Arrival}
use Rattle.floor_hub.specs.StandsFor.{RoomStands, CameTo}
use Rattle.floor_hub.proofs.Standing.{RoomsStand}
use Rattle.floor_hub.proofs.Here.{here}
use Rattle.floor_hub.proofs.Changed.{stands_changed, rooms_again}

module _ (rooms now : ℕ → Option Room) (xs : ℕ → Option Connection) (k : ℕ) (w : World) (number : ℕ) (st : RoomsStand rooms xs k w) where
  taken : (c : ℕ) (r : Room) (os : List Outbox) → rooms c ≡ Some r → now c ≡ Some (record r { outboxes = os }) → ((d : ℕ) → d ≢ c → now d ≡ rooms d) → RoomsStand now xs k w
  taken c r os is here others = stands_changed rooms now xs k w w.parts c (record {
    other_rooms = others;
    other_parts = λ d ne. refl;
    room = subst (λ (y : Option Room). RoomStands y (w.parts c)) (sym here) (room (w.parts c) (subst (λ (y : Option Room). RoomStands y (w.parts c)) is (st.of_rooms c)));
    arrivals = λ n. refl;
    came = λ n x a live h. subst (λ (y : Option Room). CameTo y x a) (sym here) (came x a (subst (λ (y : Option Room). CameTo y x a) is h));
  }) st
    where
      room : (z : Option _) → RoomStands (Some r) z → RoomStands (Some (record r { outboxes = os })) z
      room None h = h
      room (Some p) h = h

      came : (x : Connection) (a : Arrival) → CameTo (Some r) x a → CameTo (Some (record r { outboxes = os })) x a
      came x a h = λ sound. record { bytes = (h sound).bytes; served = (h sound).served }

  pub take_stands : (y : Option Connection) → xs number ≡ y → (xs number ≡ None → (d : ℕ) → now d ≡ rooms d) →
      ((x : Connection) → xs number ≡ Some x → (r : Room) → rooms x.conference ≡ Some r → (new : Room) × (now x.conference ≡ Some new) × ((d : ℕ) → nat_eq x.conference d ≡ false → now d ≡ rooms d)
      × (new ≡ record r { outboxes = new.outboxes })) → RoomsStand now xs k w
  take_stands None is absent there = rooms_again rooms now xs k w w.parts (absent is) (λ d. refl) st
  take_stands (Some x) is absent there =
      let h = here rooms xs k w number x st is in
      let room : rooms x.conference ≡ Some h.r = ap rooms h.conference ∙ h.room in
      let t = there x is h.r room in
      taken x.conference h.r t.0.outboxes room (t.1 ∙ ap (λ (y : Room). Some y) t.3) (λ d ne. t.2 d (ne_eqb x.conference d (λ e. ne (sym e))))
