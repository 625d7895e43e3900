-- What a conference that is forgotten was, and what is answered behind it.
use Rattle.std.proofs.Common.{◌≡◌, ◌≢◌, inl, ℕ, Bool, true, false, cond, List, [], ◌∷◌, length, refl, sym, ◌∙◌, ap, subst, Some, None}
use Rattle.std.specs.Prelude.{◌==◌, Option, Err, nat_eq, nat_le, not}
use Rattle.std.proofs.lemmas.Bool.{eqb-true}
use Rattle.std.proofs.lemmas.Option.{none-some}
use Rattle.floor_config.specs.Configuration.{Configuration}
use Rattle.floor_machine.specs.Conference.{Conference}
use Rattle.floor_machine.specs.Journal.{after}
use Rattle.floor_machine.specs.declared.event.Event.{Event}
use Rattle.floor_machine.specs.declared.event.Event.TheVariants.{Join}
use Rattle.floor_machine.specs.declared.machine.Refusal.TheVariants.{Broken, Ended}
use Rattle.floor_machine.specs.Machine.{event_refusal, whole}
use Rattle.floor_room.specs.Ledger.{IsRefusedBy, Ledger, closed, conference_of, first_of, refusal}
use Rattle.floor_room.specs.Room.{Room}
use Rattle.floor_room.specs.declared.refusal.RoomRefusal.{RoomRefusal}
use Rattle.floor_room.specs.declared.refusal.RoomRefusal.TheVariants.{JournalFull, Refused as ByMachine}
use Rattle.std.specs.Option.{option_map}
use Rattle.floor_hub.specs.declared.attached.Live.{Live}
use Rattle.floor_hub.specs.declared.connection.Connection.{Connection}
use Rattle.floor_hub.specs.declared.refusal.HubRefusal.TheVariants.{ByRoom}
use Rattle.floor_hub.specs.Connections.{Connections, connection_at}
use Rattle.floor_hub.specs.Hub.{Hub, is_forgotten, room_at}
use Rattle.floor_hub.specs.Rooms.{Forgets, IsAttended}
use Rattle.floor_hub.specs.StandsFor.{ConferenceStands, HasEnded, HaveOutboxes, HasOutbox, NumberStands, RoomStands, StandsFor, Stood}
use Rattle.floor_hub.specs.World.{Part, World, place, state_of}
use Rattle.floor_hub.specs.steps.Attached.{AreAttached, AreKnown, Concerned, EachOf, IsKnown, SameLive, Stands as Listed, live_in}
use Rattle.floor_hub.specs.steps.Serving.{AttachIn, EventIn}
use Rattle.floor_hub.proofs.Recalling.{number-stands}

-- what has ended refuses each event so
refuses : (l : Ledger) (e : Event) → closed l ≡ Some (ByMachine Ended) → IsRefusedBy {T = Unit {0}} (refusal l e) (Err (ByMachine Ended))
refuses l e shut = subst (λ (y : Option RoomRefusal). IsRefusedBy {T = Unit {0}} (first_of y (option_map ByMachine (event_refusal (whole (conference_of l)) e))) (Err (ByMachine Ended))) (sym shut) refl

pub event-ended : (e : Event) (r : Room) → closed r.ledger ≡ Some (ByMachine Ended) → EventIn e r r (Err (ByRoom (ByMachine Ended)))
event-ended e r shut = (tt, (ByMachine Ended, refl, refuses r.ledger e shut, refl))

pub attach-ended : (c user number : ℕ) (was now : Connections) (r : Room) → closed r.ledger ≡ Some (ByMachine Ended) → AttachIn c user number was now r r (Err (ByRoom (ByMachine Ended)))
attach-ended c user number was now r shut = (tt, (ByMachine Ended, refl, inl (refuses r.ledger (Join user) shut, refl)))

-- the part of a room that has ended has ended
part-ended : (r : Room) (p : Option Part) → closed r.ledger ≡ Some (ByMachine Ended) → RoomStands (Some r) p → HasEnded p
part-ended r None shut s = absurd s
part-ended r (Some p) shut s =
    let u = by r.ledger.is_broken (conference_of r.ledger).is_open (nat_le 2000000 (length r.ledger.journal)) shut in
    let state : conference_of r.ledger ≡ state_of p = ap (λ (config : Configuration). after config r.ledger.journal) s.0 ∙ ap (λ (es : List Event). after p.config es) (s.1 u.0) in
    sym (ap (λ (z : Conference). z.is_open) state) ∙ u.1
  where
    by : (b o f : Bool) → cond b (Some (ByMachine Broken)) (cond (not o) (Some (ByMachine Ended)) (cond f (Some JournalFull) None)) ≡ Some (ByMachine Ended) → (b ≡ false) × (o ≡ false)
    by true o f e = cc
    by false false f e = (refl, refl)
    by false true true e = cc
    by false true false e = cc

-- where nobody is of a conference, nobody is listed
pub nobody-listed : (h : Hub) (c : Concerned) (conference : ℕ) → AreAttached (live_in c) (connection_at h.connections) → ¬ IsAttended conference h → live_in c conference ≡ []
nobody-listed h c conference at nobody = by (live_in c conference) refl
  where
    by : (live : List Live) → live_in c conference ≡ live → live_in c conference ≡ []
    by [] e = e
    by (l ∷ live) e =
        let x = at.live conference l.number l.n (subst (λ (z : List Live). Listed z l.number l.n) (sym e) (inl (refl, refl))) in
        absurd (nobody (l.number, x.0, x.1, x.2))

pub unattended : (h : Hub) (c : Concerned) (conference : ℕ) → AreAttached (live_in c) (connection_at h.connections) → live_in c conference ≡ [] → ¬ IsAttended conference h
unattended h c conference at none a =
    subst (λ (z : List Live). Listed z a.0 a.1.n) none (subst (λ (d : ℕ). Listed (live_in c d) a.0 a.1.n) a.3 (at.found a.0 a.1 a.2))

pub attended : (h : Hub) (c : Concerned) (conference : ℕ) → AreAttached (live_in c) (connection_at h.connections) → (length (live_in c conference) == 0) ≡ false → IsAttended conference h
attended h c conference at some = by (live_in c conference) refl
  where
    true-is-false : true ≡ false → ⊥
    true-is-false e = cc

    by : (live : List Live) → live_in c conference ≡ live → IsAttended conference h
    by [] e = absurd (true-is-false (sym (ap (λ (z : List Live). length z == 0) e) ∙ some))
    by (l ∷ live) e = let x = at.live conference l.number l.n (subst (λ (z : List Live). Listed z l.number l.n) (sym e) (inl (refl, refl))) in (l.number, x.0, x.1, x.2)

module _ (conference : ℕ) (old new : Hub) (f : Forgets conference old new) where
  true-false : true ≡ false → ⊥
  true-false e = cc

  apart : (d : ℕ) → d ≢ conference → nat_eq conference d ≡ false
  apart d ne = by (nat_eq conference d) refl
    where
      by : (b : Bool) → nat_eq conference d ≡ b → nat_eq conference d ≡ false
      by false e = e
      by true e = absurd (ne (sym (eqb-true conference d e)))

  -- no live connection is of the conference
  elsewhere : (number : ℕ) (x : Connection) → connection_at old.connections number ≡ Some x → nat_eq conference x.conference ≡ false
  elsewhere number x is = apart x.conference (λ e. f.over.nobody (number, x, is, e))

  -- the hub stands for what it stood for
  pub stands-forgot : (w : World) → StandsFor old w → StandsFor new w
  stands-forgot w st = record {
    kept = st.kept;
    numbered = st.numbered;
    stands = record {
      conferences = λ c. by c (nat_eq conference c) refl;
      count = f.arrivals ∙ st.stands.count;
      numbers = λ k. subst (λ (x : Option Connection). NumberStands (room_at new) w.parts x (place w.places k)) (sym (f.connections k))
          (number-stands (room_at old) (room_at new) w.parts (connection_at old.connections k) (place w.places k) (λ y e. f.rooms y.conference (elsewhere k y e)) (st.stands.numbers k));
      apart = st.stands.apart;
      remembered = λ number x is. let was = sym (f.connections number) ∙ is in f.others x.conference (elsewhere number x was) ∙ st.stands.remembered number x was;
    };
  }
    where
      was-remembered : (b : Bool) → ConferenceStands b (Some f.over.room) (w.parts conference) → HasEnded (w.parts conference)
      was-remembered false s = part-ended f.over.room (w.parts conference) f.over.ended s
      was-remembered true s = s.1

      own : ConferenceStands (is_forgotten new conference) (room_at new conference) (w.parts conference)
      own = subst (λ (b : Bool). ConferenceStands b (room_at new conference) (w.parts conference)) (sym f.forgotten) (
        f.gone,
        was-remembered (is_forgotten old conference)
            (subst (λ (y : Option Room). ConferenceStands (is_forgotten old conference) y (w.parts conference)) f.over.there (st.stands.conferences conference)),
      )

      by : (c : ℕ) (b : Bool) → nat_eq conference c ≡ b → ConferenceStands (is_forgotten new c) (room_at new c) (w.parts c)
      by c true e = subst (λ (i : ℕ). ConferenceStands (is_forgotten new i) (room_at new i) (w.parts i)) (eqb-true conference c e) own
      by c false e =
          subst (λ (b : Bool). ConferenceStands b (room_at new c) (w.parts c)) (sym (f.others c e))
          (subst (λ (y : Option Room). ConferenceStands (is_forgotten old c) y (w.parts c)) (sym (f.rooms c e)) (st.stands.conferences c))

  pub outboxes-forgot : HaveOutboxes old → HaveOutboxes new
  outboxes-forgot h = λ number x is.
      let was = sym (f.connections number) ∙ is in
      subst (λ (y : Option Room). HasOutbox y x.n) (sym (f.rooms x.conference (elsewhere number x was))) (h number x was)

  pub stood-forgot : Stood old → Stood new
  stood-forgot s = (s.0, stands-forgot s.0 s.1, outboxes-forgot s.2)

  pub known-forgot : (was now : Concerned) → SameLive was now → AreKnown (room_at old) (live_in was) → AreKnown (room_at new) (live_in now)
  known-forgot was now same known = λ c r is. subst (EachOf (IsKnown r)) (sym (same c)) (by c r is (nat_eq conference c) refl)
    where
      by : (c : ℕ) (r : Room) → room_at new c ≡ Some r → (b : Bool) → nat_eq conference c ≡ b → EachOf (IsKnown r) (live_in was c)
      by c r is true e = absurd (none-some r (sym f.gone ∙ ap (room_at new) (eqb-true conference c e) ∙ is))
      by c r is false e = known c r (sym (f.rooms c e) ∙ is)
