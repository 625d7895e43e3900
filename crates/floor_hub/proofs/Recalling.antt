-- What a hub stands for once each conference that it forgot has a room again, which is what the conference is in the world.
use Rattle.std.proofs.Common.{◌≡◌, ◌≢◌, ◌⊎◌, inl, inr, ℕ, zero, suc, Bool, true, false, cond, List, [], length, refl, sym, ◌∙◌, ap, subst, Some, None}
use Rattle.std.specs.Prelude.{MatchResult, OnErr, OnOk, Option, Result, Ok, Err, nat_eq, nat_le, not}
use Rattle.std.specs.List.{list_any}
use Rattle.std.proofs.lemmas.Bool.{eqb-true}
use Rattle.std.proofs.lemmas.Option.{none-some}
use Rattle.floor_config.specs.Configuration.{Configuration}
use Rattle.floor_machine.specs.Conference.{Conference}
use Rattle.floor_machine.specs.Journal.{after}
use Rattle.floor_machine.specs.Parcel.{Parcel}
use Rattle.floor_machine.specs.declared.event.Event.{Event}
use Rattle.floor_machine.specs.declared.machine.Refusal.TheVariants.{Ended}
use Rattle.floor_room.specs.Ledger.{closed}
use Rattle.floor_room.specs.Room.{Room, new_room}
use Rattle.floor_room.specs.declared.refusal.RoomRefusal.TheVariants.{JournalFull, Refused as ByMachine}
use Rattle.floor_hub.specs.declared.connection.Connection.{Connection}
use Rattle.floor_hub.specs.declared.refusal.HubRefusal.{HubRefusal}
use Rattle.floor_hub.specs.declared.refusal.HubRefusal.TheVariants.{ByRoom, Memory as NoMemory, NoConference, Used}
use Rattle.floor_hub.specs.Connections.{Puts, connection_at}
use Rattle.floor_hub.specs.Hub.{Hub, is_forgotten, room_at}
use Rattle.floor_hub.specs.Kept.{IsKept, IsNumbered}
use Rattle.floor_hub.specs.Rooms.{OneRoom, RoomAfterIn, RoomOf, TakenOf, ended_or_none}
use Rattle.floor_hub.specs.StandsFor.{ArrivalStands, CameTo, ConferenceStands, HasEnded, NumberStands, RoomStands, StandsFor, live_at}
use Rattle.floor_hub.specs.World.{Arrival, Part, Place, World, ledger_of, nothing, place, state_of}
use Rattle.floor_hub.specs.steps.Found.{AtConnection, AtRoom}
use Rattle.floor_hub.proofs.Here.{Here, here}
use Rattle.floor_hub.proofs.Outboxes.{WasThere}
use Rattle.floor_hub.proofs.Standing.{RoomsStand}

-- a room that is this part
abbrev pub room_of : Part → Room
room_of p = record { ledger = ledger_of p; outboxes = []; told = 0; kept = 0 }

-- the room of a conference, and of a forgotten one what it is in the world
abbrev pub recall : Bool → Option Room → Option Part → Option Room
recall false r p = r
recall true r None = None
recall true r (Some p) = Some (room_of p)

-- the rooms of a hub, and of the conferences that another forgot what they are in this world
abbrev pub recalled : Hub → Hub → World → ℕ → Option Room
recalled old h w c = recall (is_forgotten old c) (room_at h c) (w.parts c)

pub recalled-live : (old h : Hub) (w : World) (c : ℕ) → is_forgotten old c ≡ false → recalled old h w c ≡ room_at h c
recalled-live old h w c e = ap (λ (b : Bool). recall b (room_at h c) (w.parts c)) e

recalled-same : (old h k : Hub) (w : World) (c : ℕ) → room_at h c ≡ room_at k c → recalled old h w c ≡ recalled old k w c
recalled-same old h k w c e = ap (λ (y : Option Room). recall (is_forgotten old c) y (w.parts c)) e

-- what a number stands for, among other rooms that are the same for its connection
pub number-stands : (rooms others : ℕ → Option Room) (parts : ℕ → Option Part) (x : Option Connection) (q : Option Place) → ((y : Connection) → x ≡ Some y → others y.conference ≡ rooms y.conference) →
    NumberStands rooms parts x q → NumberStands others parts x q
number-stands rooms others parts x None same s = s
number-stands rooms others parts x (Some p) same s = by x (live_at parts p) same s
  where
    by : (x : Option Connection) (a : Option Arrival) → ((y : Connection) → x ≡ Some y → others y.conference ≡ rooms y.conference) → ArrivalStands rooms p x a → ArrivalStands others p x a
    by None None same s = tt
    by None (Some a) same s = absurd s
    by (Some y) None same s = absurd s
    by (Some y) (Some a) same s =
        let there : others p.conference ≡ rooms p.conference = ap others (sym s.0) ∙ same y refl ∙ ap rooms s.0 in
        (s.0, s.1, subst (λ (z : Option Room). CameTo z y a) (sym there) s.2)

-- a hub stands for its worlds so
pub recalls : (h : Hub) (w : World) → StandsFor h w → RoomsStand (recalled h h w) (connection_at h.connections) h.arrivals w
recalls h w st = record {
  of_rooms = λ c. rooms (is_forgotten h c) (room_at h c) (w.parts c) (st.stands.conferences c);
  count = st.stands.count;
  numbers = λ k. number-stands (room_at h) (recalled h h w) w.parts (connection_at h.connections k) (place w.places k)
      (λ y e. recalled-live h h w y.conference (st.stands.remembered k y e)) (st.stands.numbers k);
  apart = st.stands.apart;
}
  where
    rooms : (b : Bool) (r : Option Room) (p : Option Part) → ConferenceStands b r p → RoomStands (recall b r p) p
    rooms false r p s = s
    rooms true r None s = absurd s.1
    rooms true r (Some p) s = (refl, λ e. refl)

-- a forgotten conference has no room
pub forgotten-gone : (h : Hub) (w : World) → StandsFor h w → (c : ℕ) → is_forgotten h c ≡ true → (room_at h c ≡ None) × HasEnded (w.parts c)
forgotten-gone h w st c e = subst (λ (b : Bool). ConferenceStands b (room_at h c) (w.parts c)) e (st.stands.conferences c)

-- What a call leaves of what was forgotten: the same conferences, without rooms and live connections.
pub record Remembers (old new : Hub) : Type 0 where
  pub forgotten : new.forgotten ≡ old.forgotten
  pub gone : (c : ℕ) → is_forgotten old c ≡ true → room_at new c ≡ None
  pub live : (number : ℕ) (x : Connection) → connection_at new.connections number ≡ Some x → is_forgotten old x.conference ≡ false

-- so a hub stands for a world
pub stands-recalled : (old new : Hub) (w v : World) → StandsFor old w → Remembers old new → IsKept v → IsNumbered v →
    RoomsStand (recalled old new w) (connection_at new.connections) new.arrivals v → StandsFor new v
stands-recalled old new w v was m kept numbered st = record {
  kept = kept;
  numbered = numbered;
  stands = record {
    conferences = λ c. subst (λ (b : Bool). ConferenceStands b (room_at new c) (v.parts c)) (sym (same c)) (by c (is_forgotten old c) refl (st.of_rooms c));
    count = st.count;
    numbers = λ k. number-stands (recalled old new w) (room_at new) v.parts (connection_at new.connections k) (place v.places k)
        (λ y e. sym (recalled-live old new w y.conference (m.live k y e))) (st.numbers k);
    apart = st.apart;
    remembered = λ number x is. same x.conference ∙ m.live number x is;
  };
}
  where
    same : (c : ℕ) → is_forgotten new c ≡ is_forgotten old c
    same c = ap (λ (ks : List ℕ). list_any (nat_eq c) ks) m.forgotten

    ended : (r : Option Room) (p q : Option Part) → HasEnded p → RoomStands (recall true r p) q → HasEnded q
    ended r None q h s = absurd h
    ended r (Some p) None h s = absurd s
    ended r (Some p) (Some q) h s =
        let state : state_of p ≡ state_of q = ap (λ (config : Configuration). after config p.events) s.0 ∙ ap (λ (es : List Event). after q.config es) (s.1 refl) in
        sym (ap (λ (z : Conference). z.is_open) state) ∙ h

    by : (c : ℕ) (b : Bool) → is_forgotten old c ≡ b → RoomStands (recall b (room_at new c) (w.parts c)) (v.parts c) → ConferenceStands b (room_at new c) (v.parts c)
    by c false e s = s
    by c true e s = (m.gone c e, ended (room_at new c) (w.parts c) (v.parts c) (forgotten-gone old w was c e).1 s)

-- a call leaves what was forgotten, where it makes no room of one that wasn't there, and no connection
pub remembers : (old new : Hub) (w : World) → StandsFor old w → new.forgotten ≡ old.forgotten → ((c : ℕ) → is_forgotten old c ≡ true → room_at old c ≡ None → room_at new c ≡ None) →
    ((k : ℕ) → WasThere (connection_at old.connections k) (connection_at new.connections k)) → Remembers old new
remembers old new w st same rooms were = record {
  forgotten = same;
  gone = λ c e. rooms c e (forgotten-gone old w st c e).0;
  live = λ number x is. by number x (connection_at old.connections number) refl (subst (WasThere (connection_at old.connections number)) is (were number));
}
  where
    by : (number : ℕ) (x : Connection) (y : Option Connection) → connection_at old.connections number ≡ y → WasThere y (Some x) → is_forgotten old x.conference ≡ false
    by number x None e was = absurd was
    by number x (Some y) e was = ap (is_forgotten old) was.0 ∙ st.stands.remembered number y e

-- so does an attach to a conference that wasn't
pub remembers-joined : (old new : Hub) (w : World) → StandsFor old w → new.forgotten ≡ old.forgotten → ((c : ℕ) → is_forgotten old c ≡ true → room_at old c ≡ None → room_at new c ≡ None) →
    (number : ℕ) (x : Connection) → Puts old.connections new.connections number (Some x) → is_forgotten old x.conference ≡ false → Remembers old new
remembers-joined old new w st same rooms number x puts fresh = record {
  forgotten = same;
  gone = λ c e. rooms c e (forgotten-gone old w st c e).0;
  live = λ k y is. by k y is (nat_eq number k) refl;
}
  where
    some_is : (y z : Connection) → ◌≡◌ {A = Option Connection} (Some y) (Some z) → y ≡ z
    some_is y z e = cc

    by : (k : ℕ) (y : Connection) → connection_at new.connections k ≡ Some y → (b : Bool) → nat_eq number k ≡ b → is_forgotten old y.conference ≡ false
    by k y is true e =
        let one : x ≡ y = some_is x y (sym puts.here ∙ ap (connection_at new.connections) (eqb-true number k e) ∙ is) in
        ap (λ (z : Connection). is_forgotten old z.conference) (sym one) ∙ fresh
    by k y is false e = st.stands.remembered k y (sym (puts.others k e) ∙ is)

-- a room that wasn't there before a call for one room isn't behind it
pub still-gone : (shut_by why : Option HubRefusal) (own : Room → List Event) (c : ℕ) (old new : Hub) → OneRoom shut_by why own c old new → (d : ℕ) → room_at old d ≡ None → room_at new d ≡ None
still-gone shut_by why own c old new a d none = by (nat_eq c d) refl
  where
    here-gone : (y z : Option Room) → y ≡ None → RoomAfterIn shut_by why own y z → z ≡ None
    here-gone None z e a = a.0
    here-gone (Some r) z e a = absurd (none-some r (sym e))

    by : (b : Bool) → nat_eq c d ≡ b → room_at new d ≡ None
    by true e =
        let same = eqb-true c d e in
        ap (room_at new) (sym same) ∙ here-gone (room_at old c) (room_at new c) (ap (room_at old) same ∙ none) a.own
    by false e = a.others d e ∙ none

pub still-gone-of : (shut_by why : Option HubRefusal) (own : Connection → Room → List Event) (x : Option Connection) (old new : Hub) → RoomOf shut_by why own x old new → (d : ℕ) → room_at old d ≡ None → room_at new d ≡ None
still-gone-of shut_by why own None old new a d none = a.0.rooms d ∙ none
still-gone-of shut_by why own (Some x) old new a d none = still-gone shut_by why (own x) x.conference old new a d none

true-false : true ≡ false → ⊥
true-false e = cc

-- a part that has ended is a room that has
closed-of : (r : Option Room) (q : Option Part) (s : Room) → HasEnded q → recall true r q ≡ Some s → closed s.ledger ≡ Some (ByMachine Ended)
closed-of r None s h is = absurd h
closed-of r (Some p) s h is =
    subst (λ (z : Room). closed z.ledger ≡ Some (ByMachine Ended)) (some_is (room_of p) s is)
    (ap (λ (o : Bool). cond (not o) (Some (ByMachine Ended)) (cond (nat_le 2000000 (length p.events)) (Some JournalFull) None)) h)
  where
    some_is : (y z : Room) → ◌≡◌ {A = Option Room} (Some y) (Some z) → y ≡ z
    some_is y z e = cc

not-none : (r : Option Room) (q : Option Part) → HasEnded q → recall true r q ≡ None → ⊥
not-none r None h e = h
not-none r (Some p) h e = none-some (room_of p) (sym e)

-- a call for a conference, which is refused where it was forgotten, as it is where it has ended
module _ {T : Type 0} (Did : Room → Room → Result T HubRefusal → Type 0) (old new : Hub) (w : World) (st : StandsFor old w) (c : ℕ) (res : Result T HubRefusal)
    (ended : (r : Room) → closed r.ledger ≡ Some (ByMachine Ended) → Did r r (Err (ByRoom (ByMachine Ended))))
    (at : AtRoom Did (ended_or_none (is_forgotten old c)) (room_at old) (room_at new) c res) where
  absent-by : (b : Bool) → is_forgotten old c ≡ b → recalled old old w c ≡ None → (res ≡ Err NoConference) × ((d : ℕ) → recalled old new w d ≡ recalled old old w d)
  absent-by false e none =
      let a = at.absent (sym (recalled-live old old w c e) ∙ none) in
      (a.0 ∙ ap (λ (b : Bool). Err (ended_or_none b)) e, λ d. recalled-same old new old w d (a.1 d))
  absent-by true e none =
      absurd (not-none (room_at old c) (w.parts c) (forgotten-gone old w st c e).1 (sym (ap (λ (b : Bool). recall b (room_at old c) (w.parts c)) e) ∙ none))

  there-by : (b : Bool) → is_forgotten old c ≡ b → (r : Room) → recalled old old w c ≡ Some r →
      (s : Room) × (recalled old new w c ≡ Some s) × ((d : ℕ) → nat_eq c d ≡ false → recalled old new w d ≡ recalled old old w d) × Did r s res
  there-by false e r is =
      let t = at.there r (sym (recalled-live old old w c e) ∙ is) in
      (t.0, recalled-live old new w c e ∙ t.1, λ d ne. recalled-same old new old w d (t.2 d ne), t.3)
  there-by true e r is =
      let gone = forgotten-gone old w st c e in
      let a = at.absent gone.0 in
      let shut = closed-of (room_at old c) (w.parts c) r gone.1 (sym (ap (λ (b : Bool). recall b (room_at old c) (w.parts c)) e) ∙ is) in (
        r,
        recalled-same old new old w c (a.1 c) ∙ is,
        λ d ne. recalled-same old new old w d (a.1 d),
        subst (Did r r) (sym (a.0 ∙ ap (λ (b : Bool). Err (ended_or_none b)) e)) (ended r shut),
      )

  pub recalled-room : AtRoom Did NoConference (recalled old old w) (recalled old new w) c res
  recalled-room = record { absent = absent-by (is_forgotten old c) refl; there = there-by (is_forgotten old c) refl }

-- a call for a connection, whose conference wasn't forgotten
pub recalled-connection : {T : Type 0} (Did : Connection → Option Connection → Room → Room → Result T HubRefusal → Type 0) (old new : Hub) (w : World) (st : StandsFor old w) (number : ℕ) (res : Result T HubRefusal) →
    AtConnection Did (room_at old) (room_at new) old.connections new.connections number res →
    AtConnection Did (recalled old old w) (recalled old new w) old.connections new.connections number res
recalled-connection Did old new w st number res at = record {
  absent = λ none. let a = at.absent none in (a.0, λ d. recalled-same old new old w d (a.1 d), a.2);
  there = λ x is r room.
      let live = st.stands.remembered number x is in
      let t = at.there x is r (sym (recalled-live old old w x.conference live) ∙ room) in
      (t.0, t.1, recalled-live old new w x.conference live ∙ t.2, λ d ne. recalled-same old new old w d (t.3 d ne), t.4, t.5);
}

-- a room that wasn't there before a parcel was taken isn't behind it
pub still-gone-taken : (x : Option Connection) (result : Result (Option Parcel) HubRefusal) (old new : Hub) → TakenOf x result old new → (d : ℕ) → room_at old d ≡ None → room_at new d ≡ None
still-gone-taken None result old new t d none = t.1.rooms d ∙ none
still-gone-taken (Some x) result old new t d none = by (nat_eq x.conference d) refl
  where
    by : (b : Bool) → nat_eq x.conference d ≡ b → room_at new d ≡ None
    by true e = absurd (none-some t.2.before (sym (ap (room_at old) (eqb-true x.conference d e) ∙ none) ∙ t.2.was))
    by false e = t.2.others d e ∙ none

-- a call that opens a conference
module _ (old new : Hub) (w : World) (st : StandsFor old w) (config : Configuration) where
  abbrev Opens : Type 0
  Opens = (room_at old config.conference ≡ None) × (room_at new config.conference ≡ Some (new_room config)) × ((d : ℕ) → nat_eq config.conference d ≡ false → room_at new d ≡ room_at old d)

  abbrev Fails : HubRefusal → Type 0
  Fails r =
      ((r ≡ NoMemory) × (room_at old config.conference ≡ None) × (is_forgotten old config.conference ≡ false))
      ⊎ ((r ≡ Used) × ((room_at old config.conference ≢ None) ⊎ (is_forgotten old config.conference ≡ true)))

  used : ((room_at old config.conference ≢ None) ⊎ (is_forgotten old config.conference ≡ true)) → recalled old old w config.conference ≢ None
  used why none = by (is_forgotten old config.conference) refl why
    where
      by : (b : Bool) → is_forgotten old config.conference ≡ b → ((room_at old config.conference ≢ None) ⊎ (is_forgotten old config.conference ≡ true)) → ⊥
      by false e (inl there) = there (sym (recalled-live old old w config.conference e) ∙ none)
      by false e (inr gone) = true-false (sym gone ∙ e)
      by true e h =
          not-none (room_at old config.conference) (w.parts config.conference) (forgotten-gone old w st config.conference e).1
          (sym (ap (λ (b : Bool). recall b (room_at old config.conference) (w.parts config.conference)) e) ∙ none)

  pub recalled-open : {T : Type 0} (res : Result T HubRefusal) → MatchResult res (λ _. Opens) Fails → OnOk res (is_forgotten old config.conference ≡ false) →
      MatchResult res (λ _. (recalled old old w config.conference ≡ None) × (recalled old new w config.conference ≡ Some (new_room config))
      × ((d : ℕ) → nat_eq config.conference d ≡ false → recalled old new w d ≡ recalled old old w d))
      (λ r. ((r ≡ NoMemory) × (recalled old old w config.conference ≡ None)) ⊎ ((r ≡ Used) × (recalled old old w config.conference ≢ None)))
  recalled-open (Ok v) d fresh =
      (recalled-live old old w config.conference fresh ∙ d.0, recalled-live old new w config.conference fresh ∙ d.1, λ c ne. recalled-same old new old w c (d.2 c ne))
  recalled-open (Err r) (inl m) fresh = inl (m.0, recalled-live old old w config.conference m.2 ∙ m.1)
  recalled-open (Err r) (inr u) fresh = inr (u.0, used u.1)

  pub recalled-left : {T : Type 0} (res : Result T HubRefusal) → OnErr res ((d : ℕ) → room_at new d ≡ room_at old d) → OnErr res ((d : ℕ) → recalled old new w d ≡ recalled old old w d)
  recalled-left (Ok v) left = tt
  recalled-left (Err r) left = λ d. recalled-same old new old w d (left d)

  pub opened-gone : {T : Type 0} (res : Result T HubRefusal) → MatchResult res (λ _. Opens) Fails → OnOk res (is_forgotten old config.conference ≡ false) → OnErr res ((d : ℕ) → room_at new d ≡ room_at old d) →
      (c : ℕ) → is_forgotten old c ≡ true → room_at old c ≡ None → room_at new c ≡ None
  opened-gone (Err r) d fresh left c e none = left c ∙ none
  opened-gone (Ok v) d fresh left c e none = by (nat_eq config.conference c) refl
    where
      by : (b : Bool) → nat_eq config.conference c ≡ b → room_at new c ≡ None
      by true is = absurd (true-false (sym e ∙ ap (is_forgotten old) (sym (eqb-true config.conference c is)) ∙ fresh))
      by false is = d.2 c is ∙ none

-- a hub without rooms and connections stands for the empty world
pub stands-empty : (h : Hub) → ((c : ℕ) → room_at h c ≡ None) → h.forgotten ≡ [] → ((number : ℕ) → connection_at h.connections number ≡ None) → h.arrivals ≡ 0 → StandsFor h nothing
stands-empty h rooms forgotten unattached arrivals = record {
  kept = record { parts = λ c. tt; places = λ c. refl };
  numbered = λ c p is. absurd (none-some p is);
  stands = record {
    conferences = λ c. subst (λ (b : Bool). ConferenceStands b (room_at h c) None) (sym (ap (λ (ks : List ℕ). list_any (nat_eq c) ks) forgotten)) (subst (λ (y : Option Room). RoomStands y None) (sym (rooms c)) tt);
    count = arrivals;
    numbers = λ k. by k (unattached k);
    apart = λ j k p is other. absurd (none-some p (sym (unplaced j) ∙ is));
    remembered = λ number x is. absurd (none-some x (sym (unattached number) ∙ is));
  };
}
  where
    unplaced : (k : ℕ) → place [] k ≡ None
    unplaced zero = refl
    unplaced (suc k) = refl

    by : (k : ℕ) → connection_at h.connections k ≡ None → NumberStands (room_at h) (nothing).parts (connection_at h.connections k) (place [] k)
    by zero e = e
    by (suc k) e = e

-- where a live connection stands
pub here-now : (h : Hub) (w : World) → StandsFor h w → (number : ℕ) (x : Connection) → connection_at h.connections number ≡ Some x → Here (room_at h) w number x
here-now h w st number x is =
    let at = here (recalled h h w) (connection_at h.connections) h.arrivals w number x (recalls h w st) is in
    record {
      p = at.p;
      part = at.part;
      a = at.a;
      r = at.r;
      at_place = at.at_place;
      was = at.was;
      there = at.there;
      live = at.live;
      alive = at.alive;
      conference = at.conference;
      n = at.n;
      room = sym (recalled-live h h w at.p.conference (ap (is_forgotten h) (sym at.conference) ∙ st.stands.remembered number x is)) ∙ at.room;
      stands = at.stands;
      came = at.came;
    }
