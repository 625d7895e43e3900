-- A conference that opens.
use Rattle.std.proofs.Common.{◌≡◌, ◌≢◌, ◌⊎◌, inl, inr, ℕ, zero, suc, false, refl, sym, ◌∙◌, ap, subst, Some, None}
use Rattle.std.specs.Prelude.{Option, ◌==◌, nat_eq, Result, Ok, Err, OnErr, MatchResult}
use Rattle.std.specs.Map.{update}
use Rattle.std.proofs.lemmas.Bool.{ne_eqb}
use Rattle.std.proofs.lemmas.Option.{none-some}
use Rattle.std.proofs.lemmas.Map.{update_here, update_apart}
use Rattle.floor_config.specs.Configuration.{Configuration}
use Rattle.floor_room.specs.Room.{Room, new_room}
use Rattle.floor_hub.specs.declared.refusal.HubRefusal.{HubRefusal}
use Rattle.floor_hub.specs.declared.refusal.HubRefusal.TheVariants.{Memory, Used}
use Rattle.floor_hub.specs.declared.connection.Connection.{Connection}
use Rattle.floor_hub.specs.declared.step.Step.TheVariants.{Open}
use Rattle.floor_hub.specs.declared.step.Answer.{Answer}
use Rattle.floor_hub.specs.declared.step.Answer.TheVariants.{Done, Refused}
use Rattle.floor_hub.specs.World as world
use Rattle.floor_hub.specs.World.{IsIdle, World, Part, Arrival, arrival, offer, opened, put, turn, if_live}
use Rattle.floor_hub.specs.StandsFor.{arrival_in, RoomStands}
use Rattle.floor_hub.proofs.Standing.{RoomsStand}
use Rattle.floor_hub.proofs.Changed.{stands_changed, put_back, rooms_again}

nobody : (config : Configuration) (n : ℕ) → arrival (opened config) n ≡ None
nobody config zero = refl
nobody config (suc k) = refl

no_part : (z : Option Part) → RoomStands None z → z ≡ None
no_part None h = refl
no_part (Some p) h = absurd h

no_room : (y : Option Room) → RoomStands y None → y ≡ None
no_room None h = refl
no_room (Some r) h = absurd h

module _ (rooms now : ℕ → Option Room) (xs : ℕ → Option Connection) (k : ℕ) (w : World) (config : Configuration) (st : RoomsStand rooms xs k w) where
  abbrev c : ℕ
  c = config.conference

  abbrev Opened : Answer → Type 0
  Opened a = RoomsStand now xs k (turn w (Open config)).world × ((turn w (Open config)).answer ≡ a)

  abbrev OpenIs : world.Offered → Answer → Type 0
  OpenIs o a = RoomsStand now xs k (put w c o).world × ((put w c o).answer ≡ a)

  abbrev with_part : ℕ → Option Part
  with_part = update nat_eq w.parts c (Some (opened config))

  opens : rooms c ≡ None → now c ≡ Some (new_room config) → ((d : ℕ) → d ≢ c → now d ≡ rooms d) → Opened Done
  opens is here others =
      let gone : w.parts c ≡ None = no_part (w.parts c) (subst (λ (x : Option Room). RoomStands x (w.parts c)) is (st.of_rooms c)) in
      let part : with_part c ≡ Some (opened config) = update_here w.parts c (Some (opened config)) in
      let none : (n : ℕ) → arrival_in (w.parts c) n ≡ None = λ n. ap (λ (z : Option Part). arrival_in z n) gone in
      let stands : RoomsStand now xs k (record { parts = with_part; places = w.places }) = stands_changed rooms now xs k w with_part c (record {
        other_rooms = others;
        other_parts = λ d ne. update_apart w.parts c (Some (opened config)) d ne;
        room = subst (λ (x : Option Room). RoomStands x (with_part c)) (sym here) (subst (RoomStands (Some (new_room config))) (sym part) (refl, λ b. refl));
        arrivals = λ n. ap (λ (z : Option Part). arrival_in z n) part ∙ nobody config n ∙ sym (none n);
        came = λ n x a live h. absurd (none-some a (sym (ap if_live (none n)) ∙ live));
      }) st in
      subst (λ (z : Option Part). OpenIs (offer z (Open config)) Done) (sym gone) (stands, refl)

  used : (z : Option Part) → w.parts c ≡ z → rooms c ≢ None → ((d : ℕ) → now d ≡ rooms d) → OpenIs (offer z (Open config)) (Refused Used)
  used None was there same = absurd (there (no_room (rooms c) (subst (RoomStands (rooms c)) was (st.of_rooms c))))
  used (Some p) was there same = (rooms_again rooms now xs k w (update nat_eq w.parts c (Some p)) same (λ d. put_back w c (Some p) was d (d == c) refl) st, refl)

  abbrev pub OpenFails : HubRefusal → Type 0
  OpenFails r = (((r ≡ Memory) × (¬ IsIdle (turn w (Open config)).answer)) × RoomsStand now xs k w) ⊎ Opened (Refused r)

  failed : (r : HubRefusal) → (((r ≡ Memory) × (rooms c ≡ None)) ⊎ ((r ≡ Used) × (rooms c ≢ None))) → ((d : ℕ) → now d ≡ rooms d) → OpenFails r
  failed r (inl m) same = inl ((m.0, λ idle. subst IsIdle would idle), rooms_again rooms now xs k w w.parts same (λ d. refl) st)
    where
      -- a conference is opened that isn't there
      would : (turn w (Open config)).answer ≡ Done
      would = ap (λ (z : Option Part). (put w c (offer z (Open config))).answer) (no_part (w.parts c) (subst (λ (x : Option Room). RoomStands x (w.parts c)) m.1 (st.of_rooms c)))
  failed r (inr u) same = let t = used (w.parts c) refl u.1 same in inr (t.0, t.1 ∙ ap (λ (x : HubRefusal). Refused x) (sym u.0))

  pub open_result : {T : Type 0} (res : Result T HubRefusal) →
      MatchResult res (λ _. (rooms c ≡ None) × (now c ≡ Some (new_room config)) × ((d : ℕ) → nat_eq c d ≡ false → now d ≡ rooms d)) (λ r. ((r ≡ Memory) × (rooms c ≡ None)) ⊎ ((r ≡ Used) × (rooms c ≢ None))) →
      OnErr res ((d : ℕ) → now d ≡ rooms d) → MatchResult res (λ _. Opened Done) OpenFails
  open_result (Ok v) h same = opens h.0 h.1 (λ d ne. h.2 d (ne_eqb c d (λ x. ne (sym x))))
  open_result (Err r) h same = failed r h same
