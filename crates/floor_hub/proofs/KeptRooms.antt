-- How many events of a room are kept says nothing of what the hub stands for.
use Rattle.std.proofs.Common.{◌≡◌, ℕ, Bool, true, false, refl, sym, ◌∙◌, ap, subst, arith, Some, None}
use Rattle.std.specs.Prelude.{IfErr, OnErr, OnOk, Option, Result, nat_eq}
use Rattle.std.proofs.lemmas.Bool.{eqb-true}
use Rattle.std.proofs.lemmas.Option.{none-some}
use Rattle.floor_room.specs.Room.{Room}
use Rattle.floor_hub.specs.declared.connection.Connection.{Connection}
use Rattle.floor_hub.specs.declared.hub.keeping.Keeping.{Keeping}
use Rattle.floor_hub.specs.declared.refusal.HubRefusal.{HubRefusal}
use Rattle.floor_hub.specs.Connections.{SameConnections, connection_at}
use Rattle.floor_hub.specs.Hub.{Hub, is_forgotten, room_at}
use Rattle.floor_hub.specs.Rooms.{KeepsIn, SameHub, forgotten_or_none}
use Rattle.floor_hub.specs.StandsFor.{ArrivalStands, CameTo, ConferenceStands, HaveOutboxes, NumberStands, RoomStands, StandsFor, live_at}
use Rattle.floor_hub.specs.World.{Arrival, Part, Place, World, place}
use Rattle.floor_hub.specs.steps.Attached.{AreKnown, Concerned, EachOf, IsKnown, live_in}
use Rattle.floor_hub.specs.steps.Found.{AtRoom}
use Rattle.floor_hub.specs.steps.KeptBy.{KeptIn, kept_by}
use Rattle.floor_hub.proofs.Naming.{known-ledger}
use Rattle.floor_hub.proofs.Outboxes.{Grows, keeps-outboxes, were-same}

some_is : (x y : Room) → ◌≡◌ {A = Option Room} (Some x) (Some y) → x ≡ y
some_is x y e = cc

-- the room of a conference is what it was, but for how many of its events are kept
abbrev pub KeptOnly : Option Room → Option Room → Type 0
KeptOnly None s = s ≡ None
KeptOnly (Some r) s = (n : ℕ) × (s ≡ Some (record r { kept = n }))

kept-same : (y z : Option Room) → z ≡ y → KeptOnly y z
kept-same None z e = e
kept-same (Some r) z e = (r.kept, e)

grows : (y z : Option Room) → KeptOnly y z → Grows y z
grows None z k = tt
grows (Some r) z k = subst (Grows (Some r)) (sym k.1) (omega arith)

room-stands : (y z : Option Room) → KeptOnly y z → (p : Option Part) → RoomStands y p → RoomStands z p
room-stands None z k p s = subst (λ (i : Option Room). RoomStands i p) (sym k) s
room-stands (Some r) z k None s = absurd s
room-stands (Some r) z k (Some p) s = subst (λ (i : Option Room). RoomStands i (Some p)) (sym k.1) (s.0, s.1)

conference-stands : (b : Bool) (y z : Option Room) → KeptOnly y z → (p : Option Part) → ConferenceStands b y p → ConferenceStands b z p
conference-stands false y z k p s = room-stands y z k p s
conference-stands true None z k p s = (k, s.1)
conference-stands true (Some r) z k p s = absurd (none-some r (sym s.0))

came : (y z : Option Room) → KeptOnly y z → (x : Connection) (a : Arrival) → CameTo y x a → CameTo z x a
came None z k x a h = subst (λ (i : Option Room). CameTo i x a) (sym k) tt
came (Some r) z k x a h = subst (λ (i : Option Room). CameTo i x a) (sym k.1) (λ sound. record { bytes = (h sound).bytes; served = (h sound).served })

number-stands : (rooms others : ℕ → Option Room) → ((d : ℕ) → KeptOnly (rooms d) (others d)) → (parts : ℕ → Option Part) (x : Option Connection) (q : Option Place) → NumberStands rooms parts x q → NumberStands others parts x q
number-stands rooms others all parts x None s = s
number-stands rooms others all parts x (Some p) s = by x (live_at parts p) s
  where
    by : (x : Option Connection) (a : Option Arrival) → ArrivalStands rooms p x a → ArrivalStands others p x a
    by None None s = tt
    by None (Some a) s = absurd s
    by (Some y) None s = absurd s
    by (Some y) (Some a) s = (s.0, s.1, came (rooms p.conference) (others p.conference) (all p.conference) y a s.2)

module _ (keeping : Keeping) (c : ℕ) (old new : Hub) (res : Result (Unit {0}) HubRefusal)
    (at : AtRoom (KeptIn keeping) (forgotten_or_none (is_forgotten old c)) (room_at old) (room_at new) c res)
    (connections : SameConnections old.connections new.connections) (arrivals : new.arrivals ≡ old.arrivals) (forgotten : (d : ℕ) → is_forgotten new d ≡ is_forgotten old d) where
  all : (d : ℕ) → KeptOnly (room_at old d) (room_at new d)
  all d = by (room_at old c) refl
    where
      at-one : (r : Room) → room_at old c ≡ Some r → (b : Bool) → nat_eq c d ≡ b → KeptOnly (room_at old d) (room_at new d)
      at-one r is false e = kept-same (room_at old d) (room_at new d) ((at.there r is).2 d e)
      at-one r is true e =
          let t = at.there r is in
          let same : c ≡ d = eqb-true c d e in
          subst (λ (y : Option Room). KeptOnly y (room_at new d)) (sym (ap (room_at old) (sym same) ∙ is))
          (kept_by keeping r, ap (room_at new) (sym same) ∙ t.1 ∙ ap (λ (s : Room). Some s) t.3.1)

      by : (y : Option Room) → room_at old c ≡ y → KeptOnly (room_at old d) (room_at new d)
      by None is = kept-same (room_at old d) (room_at new d) ((at.absent is).1 d)
      by (Some r) is = at-one r is (nat_eq c d) refl

  -- the hub stands for what it stood for
  pub stands-kept : (w : World) → StandsFor old w → StandsFor new w
  stands-kept w st = record {
    kept = st.kept;
    numbered = st.numbered;
    stands = record {
      conferences = λ d. subst (λ (b : Bool). ConferenceStands b (room_at new d) (w.parts d)) (sym (forgotten d))
          (conference-stands (is_forgotten old d) (room_at old d) (room_at new d) (all d) (w.parts d) (st.stands.conferences d));
      count = arrivals ∙ st.stands.count;
      numbers = λ k. subst (λ (x : Option Connection). NumberStands (room_at new) w.parts x (place w.places k)) (sym (connections k))
          (number-stands (room_at old) (room_at new) all w.parts (connection_at old.connections k) (place w.places k) (st.stands.numbers k));
      apart = st.stands.apart;
      remembered = λ number x is. forgotten x.conference ∙ st.stands.remembered number x (sym (connections number) ∙ is);
    };
  }

  pub outboxes-kept : HaveOutboxes old → HaveOutboxes new
  outboxes-kept h = keeps-outboxes old new (λ d. grows (room_at old d) (room_at new d) (all d)) (were-same old.connections new.connections connections) h

  pub known-kept : (lists : Concerned) → AreKnown (room_at old) (live_in lists) → AreKnown (room_at new) (live_in lists)
  known-kept lists known d r is = by (room_at old d) refl (all d)
    where
      by : (y : Option Room) → room_at old d ≡ y → KeptOnly y (room_at new d) → EachOf (IsKnown r) (live_in lists d)
      by None e k = absurd (none-some r (sym k ∙ is))
      by (Some q) e k =
          let same : record q { kept = k.0 } ≡ r = some_is (record q { kept = k.0 }) r (sym k.1 ∙ is) in
          known-ledger q r (sym (ap (λ (z : Room). z.ledger) same)) (live_in lists d) (known d q e)

  pub kept-in : OnOk res (KeepsIn (kept_by keeping) c old new)
  kept-in = by (room_at old c) refl
    where
      by : (y : Option Room) → room_at old c ≡ y → OnOk res (KeepsIn (kept_by keeping) c old new)
      by None is = subst (λ (z : Result (Unit {0}) HubRefusal). OnOk z (KeepsIn (kept_by keeping) c old new)) (sym (at.absent is).0) tt
      by (Some r) is =
          let t = at.there r is in
          subst (λ (z : Result (Unit {0}) HubRefusal). OnOk z (KeepsIn (kept_by keeping) c old new)) (sym t.3.0)
          (record { before = r; was = is; now = t.1 ∙ ap (λ (s : Room). Some s) t.3.1; others = t.2; connections = connections; arrivals = arrivals })

  pub refused-kept : IfErr res (λ refusal. (room_at old c ≡ None) × (refusal ≡ forgotten_or_none (is_forgotten old c)))
  refused-kept = by (room_at old c) refl
    where
      by : (y : Option Room) → room_at old c ≡ y → IfErr res (λ refusal. (room_at old c ≡ None) × (refusal ≡ forgotten_or_none (is_forgotten old c)))
      by None is =
          subst (λ (z : Result (Unit {0}) HubRefusal). IfErr z (λ refusal. (room_at old c ≡ None) × (refusal ≡ forgotten_or_none (is_forgotten old c)))) (sym (at.absent is).0) (is, refl)
      by (Some r) is =
          subst (λ (z : Result (Unit {0}) HubRefusal). IfErr z (λ refusal. (room_at old c ≡ None) × (refusal ≡ forgotten_or_none (is_forgotten old c)))) (sym (at.there r is).3.0) tt

  pub left-kept : OnErr res (SameHub old new)
  left-kept = by (room_at old c) refl
    where
      by : (y : Option Room) → room_at old c ≡ y → OnErr res (SameHub old new)
      by None is =
          let a = at.absent is in
          subst (λ (z : Result (Unit {0}) HubRefusal). OnErr z (SameHub old new)) (sym a.0) (record { rooms = a.1; connections = connections; arrivals = arrivals })
      by (Some r) is = subst (λ (z : Result (Unit {0}) HubRefusal). OnErr z (SameHub old new)) (sym (at.there r is).3.0) tt
