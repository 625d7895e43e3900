-- The lists of live connections through the calls of a hub.
use Rattle.std.proofs.Common.{◌≡◌, ◌≢◌, ◌⊎◌, ◌<◌, ◌≤◌, ◌+◌, ◌++◌, ℕ, zero, suc, List, [], ◌∷◌, Bool, true, false, arith, map, length, refl, sym, ◌∙◌, ap, subst, inl, inr, Some, None, length-append, add-one}
use Rattle.std.specs.Prelude.{Option, nat_eq, not, ◌==◌, slice_get}
use Rattle.std.proofs.lemmas.Bool.{eqb-true, ne_eqb}
use Rattle.std.proofs.lemmas.Bool.Decides.{eqb_tells}
use Rattle.std.proofs.lemmas.Option.{none-some}
use Rattle.std.specs.Option.{option_map_or}
use Rattle.floor_machine.specs.declared.event.Event.TheVariants.{Join}
use Rattle.floor_machine.specs.Journal.{parcels_of}
use Rattle.floor_machine.specs.Parcel.{Parcel}
use Rattle.floor_room.specs.Calls.{Applied}
use Rattle.floor_room.specs.Ledger.{conference_of}
use Rattle.floor_room.specs.Outbox.{Outbox, delivered, empty_outbox}
use Rattle.floor_room.specs.Room.{Room}
use Rattle.floor_hub.specs.declared.attached.Live.{Live}
use Rattle.floor_hub.specs.declared.connection.Connection.{Connection}
use Rattle.floor_hub.specs.Connections.{Connections, Puts, SameConnections, SamePlace, connection_at}
use Rattle.floor_hub.specs.Hub.{Hub, room_at}
use Rattle.floor_hub.specs.Rooms.{taken_of}
use Rattle.floor_hub.specs.StandsFor.{HasOutbox, HaveOutboxes, NumberStands, StandsFor}
use Rattle.floor_hub.specs.World.{Place, World, place}
use Rattle.floor_hub.specs.steps.Attached.{AreAttached, AreWithin, Concerned, IsIn, PutsLive, SameLive, Stands, live_in, without}
use Rattle.floor_hub.proofs.Listing.{Keeps, filter-stands, in-stands, map-stands, member-stands, push-stands, stands-filter, stands-last, stands-map, stands-push}

-- the same connections stand in both lists
record Alike (a b : List Live) : Type 0 where
  to : (number n : ℕ) → Stands a number n → Stands b number n
  from : (number n : ℕ) → Stands b number n → Stands a number n

alike-same : (a b : List Live) → b ≡ a → Alike a b
alike-same a b e = subst (Alike a) (sym e) (record { to = λ number n h. h; from = λ number n h. h })

alike-changed : (f : Live → Live) → Keeps f → (a : List Live) → Alike a (map f a)
alike-changed f keeps a = record { to = λ number n h. stands-map f a number n keeps h; from = λ number n h. map-stands f a number n keeps h }

-- who is live now was, at the same place
was-there : (x y : Option Connection) (z : Connection) → SamePlace x y → y ≡ Some z → (w : Connection) × (x ≡ Some w) × (z.conference ≡ w.conference) × (z.n ≡ w.n)
was-there None None z p e = absurd (none-some z e)
was-there None (Some y) z p e = absurd p
was-there (Some x) None z p e = absurd p
was-there (Some x) (Some y) z p e =
    let same : y ≡ z = cc in
    subst (λ (k : Connection). (w : Connection) × (◌≡◌ {A = Option Connection} (Some x) (Some w)) × (k.conference ≡ w.conference) × (k.n ≡ w.n)) same (x, refl, p.0, p.1)

is-there : (x y : Option Connection) (w : Connection) → SamePlace x y → x ≡ Some w → (z : Connection) × (y ≡ Some z) × (z.conference ≡ w.conference) × (z.n ≡ w.n)
is-there None y w p e = absurd (none-some w e)
is-there (Some x) None w p e = absurd p
is-there (Some x) (Some y) w p e =
    let same : x ≡ w = cc in
    subst (λ (k : Connection). (z : Connection) × (◌≡◌ {A = Option Connection} (Some y) (Some z)) × (z.conference ≡ k.conference) × (z.n ≡ k.n)) same (y, refl, p.0, p.1)

attached-alike : (old new : ℕ → List Live) (xs ys : ℕ → Option Connection) → ((d : ℕ) → Alike (old d) (new d)) → ((k : ℕ) → SamePlace (xs k) (ys k)) → AreAttached old xs → AreAttached new ys
attached-alike old new xs ys alike places a = record {
  found = λ number y is.
      let w = was-there (xs number) (ys number) y (places number) is in
      subst (λ (n : ℕ). Stands (new y.conference) number n) (sym w.3)
      ((alike y.conference).to number w.0.n (subst (λ (c : ℕ). Stands (old c) number w.0.n) (sym w.2) (a.found number w.0 w.1)));
  live = λ conference number n h.
      let t = a.live conference number n ((alike conference).from number n h) in
      let z = is-there (xs number) (ys number) t.0 (places number) t.1 in (z.0, z.1, z.2 ∙ t.2, z.3 ∙ t.3);
}

-- where nothing was attached and nothing has left, and what is known of one conference has changed
pub attached-changed : (f : Live → Live) → Keeps f → (old new : Concerned) (c : ℕ) (xs ys : ℕ → Option Connection) → PutsLive old new c (map f (live_in old c)) → ((k : ℕ) → SamePlace (xs k) (ys k)) →
    AreAttached (live_in old) xs → AreAttached (live_in new) ys
attached-changed f keeps old new c xs ys puts places a = attached-alike (live_in old) (live_in new) xs ys (λ d. by d (nat_eq c d) refl) places a
  where
    by : (d : ℕ) (b : Bool) → nat_eq c d ≡ b → Alike (live_in old d) (live_in new d)
    by d false e = alike-same (live_in old d) (live_in new d) (puts.others d e)
    by d true e =
        subst (λ (k : ℕ). Alike (live_in old k) (live_in new k)) (eqb-true c d e)
        (subst (λ (z : List Live). Alike (live_in old c) z) (sym puts.here) (alike-changed f keeps (live_in old c)))

-- where no list has changed
pub attached-same : (old new : Concerned) (xs ys : ℕ → Option Connection) → SameLive old new → ((k : ℕ) → SamePlace (xs k) (ys k)) → AreAttached (live_in old) xs → AreAttached (live_in new) ys
attached-same old new xs ys same places a = attached-alike (live_in old) (live_in new) xs ys (λ d. alike-same (live_in old d) (live_in new d) (same d)) places a

pub place-same : (x y : Option Connection) → y ≡ x → SamePlace x y
place-same x y e = subst (SamePlace x) (sym e) (by x)
  where
    by : (z : Option Connection) → SamePlace z z
    by None = tt
    by (Some z) = (refl, refl)

-- where what stands under one number has other bytes
pub places-put : (old new : Connections) (number : ℕ) (x y : Connection) → connection_at old number ≡ Some x → Puts old new number (Some y) → y.conference ≡ x.conference → y.n ≡ x.n →
    (k : ℕ) → SamePlace (connection_at old k) (connection_at new k)
places-put old new number x y was puts c n k = by (nat_eq number k) refl
  where
    by : (b : Bool) → nat_eq number k ≡ b → SamePlace (connection_at old k) (connection_at new k)
    by false e = place-same (connection_at old k) (connection_at new k) (puts.others k e)
    by true e =
        subst (λ (i : ℕ). SamePlace (connection_at old i) (connection_at new i)) (eqb-true number k e)
        (subst (λ (z : Option Connection). SamePlace z (connection_at new number)) (sym was) (subst (SamePlace (Some x)) (sym puts.here) (c, n)))

some_same : (x y : Connection) → ◌≡◌ {A = Option Connection} (Some x) (Some y) → x ≡ y
some_same x y e = cc

-- where one connection has left
pub attached-left : (f : Live → Live) → Keeps f → (lists now : Concerned) (old new : Connections) (number : ℕ) (x : Connection) → connection_at old number ≡ Some x → Puts old new number None →
    PutsLive lists now x.conference (map f (without number (live_in lists x.conference))) → AreAttached (live_in lists) (connection_at old) → AreAttached (live_in now) (connection_at new)
attached-left f keeps lists now old new number x was gone puts a = record {
  found = λ k y is. found k y is (eqb_tells number k);
  live = λ d k n h. live d k n h (eqb_tells x.conference d);
}
  where
    stays : Live → Bool
    stays l = not (l.number == number)

    passes : (k : ℕ) → number ≢ k → (l : Live) → l.number ≡ k → stays l ≡ true
    passes k ne l e = ap not (ne_eqb l.number number (λ i. ne (sym i ∙ e)))

    standing : (k : ℕ) (y : Connection) → number ≢ k → Stands (live_in lists y.conference) k y.n → (((nat_eq x.conference y.conference ≡ true) × (x.conference ≡ y.conference)) ⊎ ((nat_eq x.conference y.conference ≡ false) × (x.conference ≢ y.conference))) →
        Stands (live_in now y.conference) k y.n
    standing k y ne h (inr t) = subst (λ (z : List Live). Stands z k y.n) (sym (puts.others y.conference t.0)) h
    standing k y ne h (inl t) =
        let here : Stands (live_in lists x.conference) k y.n = subst (λ (c : ℕ). Stands (live_in lists c) k y.n) (sym t.1) h in
        subst (λ (c : ℕ). Stands (live_in now c) k y.n) t.1
        (subst (λ (z : List Live). Stands z k y.n) (sym puts.here)
        (stands-map f (without number (live_in lists x.conference)) k y.n keeps (stands-filter stays (live_in lists x.conference) k y.n (passes k ne) here)))

    found : (k : ℕ) (y : Connection) → connection_at new k ≡ Some y → (((nat_eq number k ≡ true) × (number ≡ k)) ⊎ ((nat_eq number k ≡ false) × (number ≢ k))) → Stands (live_in now y.conference) k y.n
    found k y is (inl t) = absurd (none-some y (sym gone.here ∙ ap (connection_at new) t.1 ∙ is))
    found k y is (inr t) = standing k y t.1 (a.found k y (sym (gone.others k t.0) ∙ is)) (eqb_tells x.conference y.conference)

    Found : ℕ → ℕ → ℕ → Type 0
    Found d k n = (y : Connection) × (connection_at new k ≡ Some y) × (y.conference ≡ d) × (y.n ≡ n)

    still : (d k n : ℕ) → number ≢ k → Stands (live_in lists d) k n → Found d k n
    still d k n ne h = let t = a.live d k n h in (t.0, gone.others k (ne_eqb number k ne) ∙ t.1, t.2, t.3)

    differs : (k : ℕ) → ((l : Live) × (l.number ≡ k) × (stays l ≡ true)) → number ≢ k
    differs k t e = by (eqb_tells t.0.number number)
      where
        by : (((nat_eq t.0.number number ≡ true) × (t.0.number ≡ number)) ⊎ ((nat_eq t.0.number number ≡ false) × (t.0.number ≢ number))) → ⊥
        by (inr w) = w.1 (t.1 ∙ sym e)
        by (inl w) = both (sym (ap not w.0) ∙ t.2)
          where
            both : false ≡ true → ⊥
            both v = cc

    live : (d k n : ℕ) → Stands (live_in now d) k n → (((nat_eq x.conference d ≡ true) × (x.conference ≡ d)) ⊎ ((nat_eq x.conference d ≡ false) × (x.conference ≢ d))) → Found d k n
    live d k n h (inr t) =
        let was : Stands (live_in lists d) k n = subst (λ (z : List Live). Stands z k n) (puts.others d t.0) h in
        let z = a.live d k n was in
        still d k n (λ e. t.1 (ap (λ (c : Connection). c.conference) (some_same x z.0 (sym was_x ∙ ap (connection_at old) e ∙ z.1)) ∙ z.2)) was
      where
        was_x : connection_at old number ≡ Some x
        was_x = was
    live d k n h (inl t) =
        let here : Stands (map f (without number (live_in lists x.conference))) k n = subst (λ (z : List Live). Stands z k n) (ap (live_in now) (sym t.1) ∙ puts.here) h in
        let f = filter-stands stays (live_in lists x.conference) k n (map-stands f (without number (live_in lists x.conference)) k n keeps here) in
        still d k n (differs k f.1) (subst (λ (c : ℕ). Stands (live_in lists c) k n) t.1 f.0)

-- where one connection has come
pub attached-joined : (f : Live → Live) → Keeps f → (lists now : Concerned) (old new : Connections) (number : ℕ) (y : Connection) (l : Live) → connection_at old number ≡ None → Puts old new number (Some y) →
    l.number ≡ number → l.n ≡ y.n → PutsLive lists now y.conference (map f (live_in lists y.conference ++ l ∷ [])) → AreAttached (live_in lists) (connection_at old) → AreAttached (live_in now) (connection_at new)
attached-joined f keeps lists now old new number y l fresh came is_number is_n puts a = record {
  found = λ k z is. found k z is (eqb_tells number k);
  live = λ d k n h. live d k n h (eqb_tells y.conference d);
}
  where
    before : List Live
    before = live_in lists y.conference

    standing : (k : ℕ) (z : Connection) → Stands (live_in lists z.conference) k z.n → (((nat_eq y.conference z.conference ≡ true) × (y.conference ≡ z.conference)) ⊎ ((nat_eq y.conference z.conference ≡ false) × (y.conference ≢ z.conference))) →
        Stands (live_in now z.conference) k z.n
    standing k z h (inr t) = subst (λ (i : List Live). Stands i k z.n) (sym (puts.others z.conference t.0)) h
    standing k z h (inl t) =
        let here : Stands (live_in lists y.conference) k z.n = subst (λ (c : ℕ). Stands (live_in lists c) k z.n) (sym t.1) h in
        subst (λ (c : ℕ). Stands (live_in now c) k z.n) t.1
        (subst (λ (i : List Live). Stands i k z.n) (sym puts.here) (stands-map f (live_in lists y.conference ++ l ∷ []) k z.n keeps (stands-push (live_in lists y.conference) l k z.n here)))

    found : (k : ℕ) (z : Connection) → connection_at new k ≡ Some z → (((nat_eq number k ≡ true) × (number ≡ k)) ⊎ ((nat_eq number k ≡ false) × (number ≢ k))) → Stands (live_in now z.conference) k z.n
    found k z is (inr t) = standing k z (a.found k z (sym (came.others k t.0) ∙ is)) (eqb_tells y.conference z.conference)
    found k z is (inl t) =
        let same : y ≡ z = some_same y z (sym came.here ∙ ap (connection_at new) t.1 ∙ is) in
        subst (λ (i : Connection). Stands (live_in now i.conference) k i.n) same
        (subst (λ (i : List Live). Stands i k y.n) (sym puts.here)
        (stands-map f (live_in lists y.conference ++ l ∷ []) k y.n keeps
        (subst (λ (i : ℕ). Stands (live_in lists y.conference ++ l ∷ []) k i) is_n
        (subst (λ (i : ℕ). Stands (live_in lists y.conference ++ l ∷ []) i l.n) (is_number ∙ t.1) (stands-last (live_in lists y.conference) l)))))

    Found : ℕ → ℕ → ℕ → Type 0
    Found d k n = (z : Connection) × (connection_at new k ≡ Some z) × (z.conference ≡ d) × (z.n ≡ n)

    still : (d k n : ℕ) → Stands (live_in lists d) k n → Found d k n
    still d k n h =
        let t = a.live d k n h in
        (t.0, came.others k (ne_eqb number k (λ e. none-some t.0 (sym fresh ∙ ap (connection_at old) e ∙ t.1))) ∙ t.1, t.2, t.3)

    either : (d k n : ℕ) → y.conference ≡ d → (Stands (live_in lists y.conference) k n ⊎ ((l.number ≡ k) × (l.n ≡ n))) → Found d k n
    either d k n e (inl h) = still d k n (subst (λ (c : ℕ). Stands (live_in lists c) k n) e h)
    either d k n e (inr h) = (y, ap (connection_at new) (sym h.0 ∙ is_number) ∙ came.here, e, sym is_n ∙ h.1)

    live : (d k n : ℕ) → Stands (live_in now d) k n → (((nat_eq y.conference d ≡ true) × (y.conference ≡ d)) ⊎ ((nat_eq y.conference d ≡ false) × (y.conference ≢ d))) → Found d k n
    live d k n h (inr t) = still d k n (subst (λ (i : List Live). Stands i k n) (puts.others d t.0) h)
    live d k n h (inl t) =
        either d k n t.1 (push-stands (live_in lists y.conference) l k n
        (map-stands f (live_in lists y.conference ++ l ∷ []) k n keeps (subst (λ (i : List Live). Stands i k n) (ap (live_in now) (sym t.1) ∙ puts.here) h)))

place-below : (ps : List Place) (k : ℕ) (p : Place) → place ps k ≡ Some p → k ≤ length ps
place-below ps zero p e = omega arith
place-below ps (suc k) p e = by ps k e
  where
    by : (qs : List Place) (i : ℕ) → slice_get qs i ≡ Some p → suc i ≤ length qs
    by [] i w = absurd (none-some p w)
    by (q ∷ qs) zero w = omega arith
    by (q ∷ qs) (suc i) w = omega (arith, by qs i w)

-- the number of a live connection was given, and so is none above the number of arrivals
pub live-below : (h : Hub) (w : World) → StandsFor h w → (k : ℕ) (x : Connection) → connection_at h.connections k ≡ Some x → k ≤ h.arrivals
live-below h w st k x is = by (place w.places k) refl (st.stands.numbers k)
  where
    by : (p : Option Place) → place w.places k ≡ p → NumberStands (room_at h) w.parts (connection_at h.connections k) p → k ≤ h.arrivals
    by None e s = absurd (none-some x (sym s ∙ is))
    by (Some p) e s = omega (arith, st.stands.count, place-below w.places k p e)

-- the next number is no connection's
pub next-is-free : (h : Hub) (w : World) → StandsFor h w → connection_at h.connections (h.arrivals + 1) ≡ None
next-is-free h w st = by (connection_at h.connections (h.arrivals + 1)) refl
  where
    by : (x : Option Connection) → connection_at h.connections (h.arrivals + 1) ≡ x → x ≡ None
    by None e = refl
    by (Some x) e = absurd (omega (arith, live-below h w st (h.arrivals + 1) x e))

-- a number of a list is that of a live connection, and so none above the number of arrivals
pub listed-below : (h : Hub) (w : World) (lists : ℕ → List Live) → StandsFor h w → AreAttached lists (connection_at h.connections) → (c k : ℕ) → IsIn (map (λ l. l.number) (lists c)) k → k < h.arrivals + 1
listed-below h w lists st a c k i =
    let s = in-stands (lists c) k i in
    let t = a.live c k s.0 s.1 in
    omega (arith, live-below h w st k t.0 t.1)

-- the next number is above those of a conference's live connections, and these have outboxes in its room
pub within : (h : Hub) (w : World) (lists : ℕ → List Live) → StandsFor h w → HaveOutboxes h → AreAttached lists (connection_at h.connections) → (c : ℕ) (r : Room) → room_at h c ≡ Some r →
    AreWithin (lists c) (h.arrivals + 1) (length r.outboxes)
within h w lists st outboxes a c r is = record {
  first = omega arith;
  numbers = λ k i. listed-below h w lists st a c k i;
  members = λ k i. below k i;
}
  where
    below : (k : ℕ) → IsIn (map (λ l. l.n) (lists c)) k → k ≤ length r.outboxes
    below k i =
        let s = member-stands (lists c) k i in
        let t = a.live c s.0 k s.1 in
        let has : HasOutbox (Some r) t.0.n = subst (λ (y : Option Room). HasOutbox y t.0.n) (ap (room_at h) t.2 ∙ is) (outboxes s.0 t.0 t.1) in
        omega (arith, t.3, has.1)

-- where a call was for one connection, which stays
pub places-of : (old new : Connections) (number : ℕ) (y : Option Connection) → connection_at old number ≡ y → (y ≡ None → SameConnections old new) →
    ((x : Connection) → y ≡ Some x → (z : Connection) × (z.conference ≡ x.conference) × (z.n ≡ x.n) × Puts old new number (Some z)) → (k : ℕ) → SamePlace (connection_at old k) (connection_at new k)
places-of old new number None was same there k = place-same (connection_at old k) (connection_at new k) (same refl k)
places-of old new number (Some x) was same there k = let t = there x refl in places-put old new number x t.0 was t.3 t.1 t.2 k

length-delivered : (ps : List Parcel) (n : ℕ) (os : List Outbox) → length (delivered ps n os) ≡ length os
length-delivered ps n [] = refl
length-delivered ps n (o ∷ os) = ap (λ (k : ℕ). suc k) (length-delivered ps (n + 1) os)

untaken : (ps : List Parcel) (n : ℕ) (os : List Outbox) → option_map_or (λ o. o.taken) (slice_get (delivered ps n (os ++ empty_outbox ∷ [])) (length os)) 0 ≡ 0
untaken ps n [] = refl
untaken ps n (o ∷ os) = untaken ps (n + 1) os

-- nothing was taken from the last outbox, where a user has joined
pub last-untaken : (r s : Room) (user members : ℕ) → Applied r s (Join user) → members + 1 ≡ length s.outboxes → taken_of s (members + 1) ≡ 0
last-untaken r s user members t count =
    let outboxes : s.outboxes ≡ delivered (parcels_of (conference_of r.ledger) (Join user)) 1 (r.outboxes ++ empty_outbox ∷ []) = ap (λ (z : Room). z.outboxes) t.next in
    let many : length s.outboxes ≡ length (r.outboxes ++ empty_outbox ∷ []) = ap length outboxes ∙ length-delivered (parcels_of (conference_of r.ledger) (Join user)) 1 (r.outboxes ++ empty_outbox ∷ []) in
    let place : members ≡ length r.outboxes = omega (arith, count, many, length-append r.outboxes (empty_outbox ∷ [])) in
    ap (taken_of s) (add-one members)
    ∙ (ap (λ (k : ℕ). option_map_or (λ o. o.taken) (slice_get s.outboxes k) 0) place
    ∙ (ap (λ (z : List Outbox). option_map_or (λ o. o.taken) (slice_get z (length r.outboxes)) 0) outboxes
    ∙ untaken (parcels_of (conference_of r.ledger) (Join user)) 1 r.outboxes))
