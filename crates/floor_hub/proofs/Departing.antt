-- An arrival that leaves.
use Rattle.std.proofs.Common.{◌≡◌, ◌≢◌, ◌⊎◌, inl, inr, ℕ, true, false, List, [], ◌∷◌, ◌++◌, refl, sym, ◌∙◌, ap, subst, append-nil, Some, None}
use Rattle.std.specs.Prelude.{Option, is_some, if◌then◌else◌, nat_eq, Result, Ok, Err, IfErr, OnOk, MatchResult}
use Rattle.std.specs.Option.{option_map}
use Rattle.std.proofs.lemmas.Bool.{ne_eqb}
use Rattle.std.proofs.lemmas.Option.{none-some}
use Rattle.floor_machine.specs.declared.event.Event.{Event}
use Rattle.floor_machine.specs.declared.event.Event.TheVariants.{Leave as Leaves}
use Rattle.floor_machine.specs.declared.machine.Refusal.TheVariants.{Memory}
use Rattle.floor_machine.specs.Machine.{leave_refusal, whole}
use Rattle.floor_room.specs.declared.refusal.RoomRefusal.{RoomRefusal}
use Rattle.floor_room.specs.declared.refusal.RoomRefusal.TheVariants.{Refused as ByMachine}
use Rattle.floor_room.specs.Ledger.{conference_of}
use Rattle.floor_room.specs.Room.{Room}
use Rattle.floor_room.specs.Ledger.{closed, first_of, refusal}
use Rattle.floor_room.proofs.Ledgers as adding
use Rattle.floor_hub.specs.declared.refusal.HubRefusal.{HubRefusal}
use Rattle.floor_hub.specs.declared.refusal.HubRefusal.TheVariants.{NoConnection, ByRoom}
use Rattle.floor_hub.specs.declared.connection.Connection.{Connection}
use Rattle.floor_hub.specs.declared.step.Step.TheVariants.{Leave}
use Rattle.floor_hub.specs.declared.step.Answer.{Answer}
use Rattle.floor_hub.specs.declared.step.Answer.TheVariants.{Done, Refused}
use Rattle.floor_hub.specs.World as world
use Rattle.floor_hub.specs.World.{IsIdle, World, Part, Arrival, Place, aim, arrival, if_live, offer, place, put, ledger_of, turn, turn_at, with_arrival, with_events}
use Rattle.floor_hub.specs.StandsFor.{RoomStands, CameTo, ArrivalStands}
use Rattle.floor_hub.proofs.Standing.{RoomsStand}
use Rattle.floor_hub.specs.steps.Serving.{LeaveFailsIn, LeavesIn}
use Rattle.floor_hub.specs.Kept.{IsKept}
use Rattle.floor_hub.proofs.Changes.{changed}
use Rattle.floor_hub.proofs.Here.{Here, gone, here}
use Rattle.floor_hub.proofs.Pieces.{arrival_set, arrival_set_other}
use Rattle.floor_hub.proofs.Changed.{connections_again, rooms_again}
use Rattle.floor_hub.proofs.Attending.{by_memory, came_apart, closed_part, left_broken, member_live, no_refusal, true_false, wants_leave}

module _ (rooms now : ℕ → Option Room) (xs now_xs : ℕ → Option Connection) (k : ℕ) (w : World) (number : ℕ) (st : RoomsStand rooms xs k w) (kept : IsKept w)
    (x : Connection) (h : Here rooms w number x) (new : Room)
    (now_here : now h.p.conference ≡ Some new) (other_rooms : (d : ℕ) → d ≢ h.p.conference → now d ≡ rooms d)
    (others : (j : ℕ) → j ≢ number → now_xs j ≡ xs j) (now_gone : now_xs number ≡ None) where
  abbrev part : Part
  part = h.part

  abbrev c : ℕ
  c = h.p.conference

  abbrev n : ℕ
  n = h.p.n

  leave_turn : turn w (Leave number) ≡ put w c (world.leave part n (Some h.a))
  leave_turn =
      ap (λ (y : Option Place). turn_at w (aim Leave y)) h.at_place ∙ ap (λ (z : Option Part). put w c (offer z (Leave n))) h.was
      ∙ ap (λ (z : Option Arrival). put w c (world.leave part n z)) h.alive

  abbrev Turned : Answer → Type 0
  Turned a = RoomsStand now now_xs k (turn w (Leave number)).world × ((turn w (Leave number)).answer ≡ a)

  leaves : new.ledger.config ≡ h.r.ledger.config → (new.ledger.is_broken ≡ false → new.ledger.journal ≡ part.events ++ world.left part n) →
      ((y : Connection) (a : Arrival) → CameTo (Some h.r) y a → CameTo (Some new) y a) → Turned Done
  leaves config journal came =
      let b : Arrival = record { bytes = h.a.bytes; served = h.a.served; live = false } in
      let after_part : Part = with_arrival (with_events part (world.left part n)) n b in
      let set : if_live (arrival after_part n) ≡ None = ap if_live (arrival_set (with_events part (world.left part n)) n b h.a h.there) in
      subst (λ (u : world.Turn). RoomsStand now now_xs k u.world × (u.answer ≡ Done)) (sym leave_turn) (
        changed rooms now xs now_xs k w number h.p part after_part st (record {
          at_place = h.at_place;
          was = h.was;
          other_rooms = other_rooms;
          other_numbers = others;
          other_arrivals = λ m ne. arrival_set_other (with_events part (world.left part n)) n m b ne;
          other_came = λ y a ne f. subst (λ (z : Option Room). CameTo z y a) (sym now_here) (came y a (subst (λ (z : Option Room). CameTo z y a) h.room f));
          room = subst (λ (y : Option Room). RoomStands y (Some after_part)) (sym now_here) (config ∙ h.stands.0, journal);
          own = subst (λ (y : Option Connection). ArrivalStands now h.p y (if_live (arrival after_part n))) (sym now_gone) (subst (ArrivalStands now h.p None) (sym set) tt);
        }),
        refl,
      )

  leaves_broken : new.ledger.is_broken ≡ true → new.ledger.config ≡ h.r.ledger.config → Turned Done
  leaves_broken broken config = leaves config (λ sound. absurd (true_false (sym broken ∙ sound))) (λ y a f sound. absurd (true_false (sym broken ∙ sound)))

  left_when : (z : Option RoomRefusal) → closed (ledger_of part) ≡ z → world.left part n ≡ (if is_some z then [] else Leaves n ∷ [])
  left_when z is = ap (λ (y : Option RoomRefusal). if is_some y then [] else Leaves n ∷ []) is

  some_left : (z : Option RoomRefusal) → is_some z ≡ true → (if is_some z then [] else Leaves n ∷ []) ≡ []
  some_left None e = absurd (true_false (sym e))
  some_left (Some y) e = refl

  done : LeavesIn h.r new x.n → Turned Done
  done (inl f) =
      leaves (ap (λ (y : Room). y.ledger.config) f.1)
      (λ sound.
      let was_sound : h.r.ledger.is_broken ≡ false = sym (ap (λ (y : Room). y.ledger.is_broken) f.1) ∙ sound in
      let same : closed h.r.ledger ≡ closed (ledger_of part) = closed_part h.r part was_sound h.stands.0 (h.stands.1 was_sound) in
      ap (λ (y : Room). y.ledger.journal) f.1 ∙ h.stands.1 was_sound ∙ sym (append-nil part.events)
      ∙ ap (λ (es : List Event). part.events ++ es) (sym (left_when (closed h.r.ledger) (sym same) ∙ some_left (closed h.r.ledger) f.0)))
      (λ y a came. subst (λ (r : Room). CameTo (Some r) y a) (sym f.1) came)
  done (inr t) =
      let none : closed h.r.ledger ≡ None = first_none (closed h.r.ledger) (option_map ByMachine (leave_refusal (whole (conference_of h.r.ledger)) x.n)) t.allowed in
      let sound : h.r.ledger.is_broken ≡ false = (adding.opened h.r.ledger (sym none)).unbroken in
      let same : closed h.r.ledger ≡ closed (ledger_of part) = closed_part h.r part sound h.stands.0 (h.stands.1 sound) in
      let journal : new.ledger.journal ≡ h.r.ledger.journal ++ Leaves x.n ∷ [] = ap (λ (y : Room). y.ledger.journal) t.next in
      leaves (ap (λ (y : Room). y.ledger.config) t.next)
      (λ e.
      journal ∙ ap (λ (i : ℕ). h.r.ledger.journal ++ Leaves i ∷ []) h.n ∙ ap (λ (es : List Event). es ++ Leaves n ∷ []) (h.stands.1 sound)
      ∙ ap (λ (es : List Event). part.events ++ es) (sym (left_when None (sym same ∙ none))))
      (λ y a came. came_apart h.r new (Leaves x.n) y a sound journal refl came)
    where
      first_none : (y z : Option RoomRefusal) → first_of y z ≡ None → y ≡ None
      first_none None z e = refl
      first_none (Some r) z e = absurd (none-some r (sym e))

  abbrev pub LeaveFails : HubRefusal → Type 0
  LeaveFails r = (((r ≡ ByRoom (ByMachine Memory)) × (¬ IsIdle (turn w (Leave number)).answer)) × RoomsStand now now_xs k (turn w (Leave number)).world) ⊎ Turned (Refused r)

  failed : (why : RoomRefusal) → LeaveFailsIn h.r new x.n why → LeaveFails (ByRoom why)
  failed why f =
      let live = member_live rooms now xs now_xs k w number st kept x h new now_here other_rooms others f.opened in
      let memory : why ≡ ByMachine Memory = by_memory (refusal h.r.ledger (Leaves x.n)) why (no_refusal h.r x.n f.opened live) f.refused in
      let broken = left_broken h.r new (Leaves x.n) why memory f.after in
      let gone = leaves_broken broken.0 broken.1 in
      inl ((ap (λ (y : RoomRefusal). ByRoom y) memory, λ idle. subst IsIdle gone.1 idle), gone.0)

  pub leave_made : (res : Result (Unit {0}) HubRefusal) → OnOk res (LeavesIn h.r new x.n) → IfErr res (λ y. (why : RoomRefusal) × (y ≡ ByRoom why) × LeaveFailsIn h.r new x.n why) →
      MatchResult res (λ _. Turned Done) LeaveFails
  leave_made (Ok v) ok err = done ok
  leave_made (Err r) ok err = subst LeaveFails (sym err.1) (failed err.0 err.2)

module _ (rooms now : ℕ → Option Room) (xs now_xs : ℕ → Option Connection) (k : ℕ) (w : World) (number : ℕ) (st : RoomsStand rooms xs k w) (kept : IsKept w) where
  abbrev LeftAll : Answer → Type 0
  LeftAll a = RoomsStand now now_xs k (turn w (Leave number)).world × ((turn w (Leave number)).answer ≡ a)

  abbrev pub LeaveFailsAll : HubRefusal → Type 0
  LeaveFailsAll r = (((r ≡ ByRoom (ByMachine Memory)) × (¬ IsIdle (turn w (Leave number)).answer)) × RoomsStand now now_xs k (turn w (Leave number)).world) ⊎ LeftAll (Refused r)

  -- what leaving is in the world
  pub leave_result : (res : Result (Unit {0}) HubRefusal) (y : Option Connection) → xs number ≡ y →
      (xs number ≡ None → (res ≡ Err NoConnection) × ((d : ℕ) → now d ≡ rooms d) × ((j : ℕ) → now_xs j ≡ xs j)) →
      ((x : Connection) → xs number ≡ Some x → (now_xs number ≡ None) × ((j : ℕ) → nat_eq number j ≡ false → now_xs j ≡ xs j)) →
      ((x : Connection) → xs number ≡ Some x → (r : Room) → rooms x.conference ≡ Some r → (new : Room) × (now x.conference ≡ Some new)
      × ((d : ℕ) → nat_eq x.conference d ≡ false → now d ≡ rooms d) × OnOk res (LeavesIn r new x.n)
      × IfErr res (λ y. (why : RoomRefusal) × (y ≡ ByRoom why) × LeaveFailsIn r new x.n why)) →
      MatchResult res (λ _. LeftAll Done) LeaveFailsAll
  leave_result res None is absent went there =
      let a = absent is in
      let g = gone rooms xs k w Leave wants_leave number st is in
      let stands : RoomsStand now now_xs k (turn w (Leave number)).world =
      connections_again now xs now_xs k (turn w (Leave number)).world a.2 (rooms_again rooms now xs k (turn w (Leave number)).world (turn w (Leave number)).world.parts a.1 (λ d. refl) g.0) in
      subst (λ (z : Result (Unit {0}) HubRefusal). MatchResult z (λ _. LeftAll Done) LeaveFailsAll) (sym a.0) (inr (stands, g.1))
  leave_result res (Some x) is absent went there =
      let h = here rooms xs k w number x st is in
      let t = there x is h.r (ap rooms h.conference ∙ h.room) in
      let v = went x is in
      leave_made rooms now xs now_xs k w number st kept x h t.0 (ap now (sym h.conference) ∙ t.1) (λ d ne. t.2 d (ne_eqb x.conference d (λ e. ne (sym e ∙ h.conference))))
      (λ j ne. v.1 j (ne_eqb number j (λ e. ne (sym e)))) v.0 res t.3 t.4
