-- Each call of a hub keeps the lists of live connections, and names those that it concerned.
use Rattle.std.proofs.Common.{◌≡◌, ◌≢◌, ◌⊎◌, ◌+◌, ◌++◌, ◌&&◌, ◌||◌, ℕ, List, [], ◌∷◌, Bool, true, false, length, refl, sym, ◌∙◌, ap, subst, inl, inr, Some, None}
use Rattle.std.specs.Prelude.{MatchResult, OnErr, Option, Result, Ok, Err, nat_eq, not, ◌==◌}
use Rattle.std.proofs.lemmas.Bool.{eqb-true}
use Rattle.std.proofs.lemmas.Bool.Decides.{eqb_tells}
use Rattle.floor_config.specs.Configuration.{Configuration}
use Rattle.floor_machine.specs.Conference.{is_cut, is_live}
use Rattle.floor_machine.specs.Parcel.{Parcel}
use Rattle.floor_machine.specs.declared.event.Event.{Event}
use Rattle.floor_room.specs.Ledger.{Ledger, conference_of}
use Rattle.floor_room.specs.Room.{Room, new_room}
use Rattle.floor_hub.specs.declared.attached.Live.{Live}
use Rattle.floor_hub.specs.declared.connection.Connection.{Connection}
use Rattle.floor_hub.specs.declared.refusal.HubRefusal.{HubRefusal}
use Rattle.floor_hub.specs.declared.step.Taken.{Taken}
use Rattle.floor_hub.proofs.Passing.{each-same}
use Rattle.floor_hub.specs.Connections.{Puts, SameConnections, SamePlace, connection_at}
use Rattle.floor_hub.specs.Concerned.{Concerns, is_shut}
use Rattle.floor_hub.specs.Hub.{Hub, room_at}
use Rattle.floor_hub.specs.Rooms.{TakenAll, OneRoom, QueuesMore, RoomAfterIn, RoomOf, TakenOf}
use Rattle.floor_hub.specs.StandsFor.{HasOutbox, HaveOutboxes, Stood, StandsFor}
use Rattle.floor_hub.specs.World.{World}
use Rattle.floor_hub.specs.steps.Attached.{AreAttached, AreKnown, Concerned, ConcernedBy, ConcernedOf, EachOf, IsKnown, NamedIn, SameLive, Stands, Tells, always, attached_to, joined_as, live_in, marked, without}
use Rattle.floor_hub.proofs.Attaching.{attached-changed, attached-joined, attached-left, attached-same, next-is-free, place-same}
use Rattle.floor_hub.proofs.Concerning.{IsFound, StaysAs, concerns-in, concerns-nobody, keeps-marked, known-all}
use Rattle.floor_hub.proofs.Known.{Went, connected-live, joined-known}
use Rattle.floor_hub.proofs.Listing.{each-filter, each-push, stands-map}

-- what a call leaves: the lists agree with the connections, and it names whom it concerned
pub record Named (now : Concerned) (old new : Hub) : Type 0 where
  pub attached : AreAttached (live_in now) (connection_at new.connections)
  pub known : AreKnown (room_at new) (live_in now)
  pub concerns : Concerns old new

-- what a call has done to the room of a conference
abbrev pub Moves : ℕ → Hub → Hub → Type 0
Moves c old new = (r s : Room) → room_at old c ≡ Some r → room_at new c ≡ Some s → Went r s

stays-as : (x y : Option Connection) → SamePlace x y → StaysAs x y
stays-as None y p = tt
stays-as (Some x) None p = tt
stays-as (Some x) (Some y) p = p

-- what a room went from and to, where a call was for it
abbrev pub WentAt : Hub → Hub → ℕ → Type 0
WentAt old new c = (r : Room) × (s : Room) × (room_at old c ≡ Some r) × (room_at new c ≡ Some s) × QueuesMore r.outboxes s.outboxes

went : (shut why : Option HubRefusal) (own : Room → List Event) (c : ℕ) (old new : Hub) (y z : Option Room) → room_at old c ≡ y → room_at new c ≡ z → RoomAfterIn shut why own y z → ((y ≡ None) × (z ≡ None)) ⊎ WentAt old new c
went shut why own c old new None z was now h = inl (refl, h.0)
went shut why own c old new (Some r) None was now h = absurd h
went shut why own c old new (Some r) (Some s) was now h = inr (r, s, was, now, h.outboxes)

-- no room has changed, where none was there
none-there : (old new : Hub) (c : ℕ) → room_at old c ≡ None → room_at new c ≡ None → ((d : ℕ) → nat_eq c d ≡ false → room_at new d ≡ room_at old d) → (d : ℕ) → room_at new d ≡ room_at old d
none-there old new c was now others d = by (eqb_tells c d)
  where
    by : (((nat_eq c d ≡ true) × (c ≡ d)) ⊎ ((nat_eq c d ≡ false) × (c ≢ d))) → room_at new d ≡ room_at old d
    by (inl t) = ap (room_at new) (sym t.1) ∙ now ∙ sym was ∙ ap (room_at old) t.1
    by (inr t) = others d t.0

room_is : (x y : Room) → ◌≡◌ {A = Option Room} (Some x) (Some y) → x ≡ y
room_is x y e = cc

-- where no room and no list has changed
pub known-same : (old new : ℕ → Option Room) (lists now : Concerned) → ((d : ℕ) → new d ≡ old d) → SameLive lists now → AreKnown old (live_in lists) → AreKnown new (live_in now)
known-same old new lists now rooms same k d r is = subst (EachOf (IsKnown r)) (sym (same d)) (k d r (sym (rooms d) ∙ is))

-- where one room and its list have changed
known-at : (c : ℕ) (old new : ℕ → Option Room) (lists now : Concerned) (s : Room) → new c ≡ Some s → ((d : ℕ) → nat_eq c d ≡ false → new d ≡ old d) →
    ((d : ℕ) → nat_eq c d ≡ false → live_in now d ≡ live_in lists d) → EachOf (IsKnown s) (live_in now c) → AreKnown old (live_in lists) → AreKnown new (live_in now)
known-at c old new lists now s is rooms same here k d r at = by (nat_eq c d) refl
  where
    by : (b : Bool) → nat_eq c d ≡ b → EachOf (IsKnown r) (live_in now d)
    by false e = subst (EachOf (IsKnown r)) (sym (same d e)) (k d r (sym (rooms d e) ∙ at))
    by true e =
        let eq : c ≡ d = eqb-true c d e in
        let sr : s ≡ r = room_is s r (sym is ∙ ap new eq ∙ at) in
        subst (λ (i : ℕ). EachOf (IsKnown r) (live_in now i)) eq (subst (λ (z : Room). EachOf (IsKnown z) (live_in now c)) sr here)

-- the members of the connections that stand in a list are live, where each of these is a connection of a hub
each-live : (s : Room) (live : List Live) → ((number n : ℕ) → Stands live number n → is_shut s ≡ false → is_live (conference_of s.ledger) n ≡ true) →
    EachOf (λ l. is_shut s ≡ false → is_live (conference_of s.ledger) l.n ≡ true) live
each-live s [] h = tt
each-live s (l ∷ live) h = (h l.number l.n (inl (refl, refl)), each-live s live (λ number n i. h number n (inr i)))

each-both : (P Q : Live → Type 0) (live : List Live) → EachOf P live → EachOf Q live → EachOf (λ l. P l × Q l) live
each-both P Q [] p q = tt
each-both P Q (l ∷ live) p q = ((p.0, q.0), each-both P Q live p.1 q.1)

-- the call was for the room of the conference c, which went from r to s; these are its live connections, of which some are named
module _ (c : ℕ) (lists now : Concerned) (told : List ℕ) (old new : Hub) (r s : Room) (live : List Live) (i : NamedIn (is_shut r) s told live (live_in now c) now.numbers)
    (was : room_at old c ≡ Some r) (is : room_at new c ≡ Some s) (rooms : (d : ℕ) → nat_eq c d ≡ false → room_at new d ≡ room_at old d)
    (same : (d : ℕ) → nat_eq c d ≡ false → live_in now d ≡ live_in lists d) (more : QueuesMore r.outboxes s.outboxes) (moves : Went r s) (tells : Tells r s told)
    (numbers : new.concerned ≡ now.numbers) (stood : Stood new) (attached : AreAttached (live_in now) (connection_at new.connections)) (known : EachOf (IsKnown r) live) (all_known : AreKnown (room_at old) (live_in lists))
    (stays : (k : ℕ) → StaysAs (connection_at old.connections k) (connection_at new.connections k)) where
  live-in : (number n : ℕ) → Stands live number n → is_shut s ≡ false → is_live (conference_of s.ledger) n ≡ true
  live-in number n h is_open =
      let t = attached.live c number n (subst (λ (z : List Live). Stands z number n) (sym i.marked) (stands-map (marked i.cut) live number n (keeps-marked i.cut) h)) in
      subst (λ (k : ℕ). is_live (conference_of s.ledger) k ≡ true) t.3 (connected-live new stood.0 stood.1 number t.0 t.1 s (ap (room_at new) t.2 ∙ is) is_open)

  found : EachOf (IsFound r s) live
  found = each-both (IsKnown r) (λ l. is_shut s ≡ false → is_live (conference_of s.ledger) l.n ≡ true) live known (each-live s live live-in)

  pub named-in : Named now old new
  named-in = record {
    attached = attached;
    known = known-at c (room_at old) (room_at new) lists now s is rooms same
        (subst (EachOf (IsKnown s)) (sym i.marked) (known-all r s told i.cut moves tells i.are_cut live found)) all_known;
    concerns = concerns-in old new now c r s told live (subst (λ (z : List ℕ). NamedIn (is_shut r) s told live (live_in now c) z) (sym numbers) i) was is rooms more moves tells attached found stays;
  }

-- a call for a conference, by which nobody has come and nobody has left
pub named-at : (shut why : Option HubRefusal) (own : Room → List Event) (c : ℕ) (told : List ℕ) (lists now : Concerned) (old new : Hub) → OneRoom shut why own c old new →
    ConcernedBy (always (live_in lists c)) told (room_at old) (room_at new) c lists now → new.concerned ≡ now.numbers → ((k : ℕ) → SamePlace (connection_at old.connections k) (connection_at new.connections k)) →
    Moves c old new → Stood new → AreAttached (live_in lists) (connection_at old.connections) → AreKnown (room_at old) (live_in lists) → Named now old new
named-at shut why own c told lists now old new one by_call numbers places moves stood a k = by (went shut why own c old new (room_at old c) (room_at new c) refl refl one.own)
  where
    by : ((room_at old c ≡ None) × (room_at new c ≡ None)) ⊎ WentAt old new c → Named now old new
    by (inl h) =
        let t = by_call.absent h.0 in
        let same = none-there old new c h.0 h.1 one.others in
        record {
          attached = attached-same lists now (connection_at old.connections) (connection_at new.connections) t.0 places a;
          known = known-same (room_at old) (room_at new) lists now same t.0 k;
          concerns = concerns-nobody old new same (numbers ∙ t.1);
        }
    by (inr h) =
        let t = by_call.there h.0 h.1 h.2 h.3 in
        let attached = attached-changed (marked t.1.cut) (keeps-marked t.1.cut) lists now c (connection_at old.connections) (connection_at new.connections) (record { here = t.1.marked; others = t.2 }) places a in
        named-in c lists now told old new h.0 h.1 (live_in lists c) t.1 h.2 h.3 one.others t.2 h.4 (moves h.0 h.1 h.2 h.3) t.0 numbers stood attached (k c h.0 h.2) k
        (λ j. stays-as (connection_at old.connections j) (connection_at new.connections j) (places j))

-- a call for a connection, by which nobody has left
pub named-of-one : (shut why : Option HubRefusal) (own : Connection → Room → List Event) (told : List ℕ) (lists now : Concerned) (old new : Hub) (y : Option Connection) → RoomOf shut why own y old new →
    ConcernedOf (λ x. live_in lists x.conference) told y (room_at old) (room_at new) lists now → new.concerned ≡ now.numbers → ((k : ℕ) → SamePlace (connection_at old.connections k) (connection_at new.connections k)) →
    ((x : Connection) → y ≡ Some x → Moves x.conference old new) → Stood new → AreAttached (live_in lists) (connection_at old.connections) → AreKnown (room_at old) (live_in lists) → Named now old new
named-of-one shut why own told lists now old new None one by_call numbers places moves stood a k = record {
  attached = attached-same lists now (connection_at old.connections) (connection_at new.connections) by_call.0 places a;
  known = known-same (room_at old) (room_at new) lists now one.0.rooms by_call.0 k;
  concerns = concerns-nobody old new one.0.rooms (numbers ∙ by_call.1);
}
named-of-one shut why own told lists now old new (Some x) one by_call numbers places moves stood a k =
    named-at shut why (own x) x.conference told lists now old new one by_call numbers places (moves x refl) stood a k

-- a connection has left
pub named-left : (shut why : Option HubRefusal) (own : Connection → Room → List Event) (number : ℕ) (told : List ℕ) (lists now : Concerned) (old new : Hub) (y : Option Connection) → connection_at old.connections number ≡ y → RoomOf shut why own y old new →
    ConcernedOf (λ x. without number (live_in lists x.conference)) told y (room_at old) (room_at new) lists now → new.concerned ≡ now.numbers →
    (y ≡ None → SameConnections old.connections new.connections) → ((x : Connection) → y ≡ Some x → Puts old.connections new.connections number None) →
    ((x : Connection) → y ≡ Some x → Moves x.conference old new) → Stood new → HaveOutboxes old → AreAttached (live_in lists) (connection_at old.connections) → AreKnown (room_at old) (live_in lists) → Named now old new
named-left shut why own number told lists now old new None was one by_call numbers same gone moves stood outboxes a k = record {
  attached = attached-same lists now (connection_at old.connections) (connection_at new.connections) by_call.0 (λ j. place-same (connection_at old.connections j) (connection_at new.connections j) (same refl j)) a;
  known = known-same (room_at old) (room_at new) lists now one.0.rooms by_call.0 k;
  concerns = concerns-nobody old new one.0.rooms (numbers ∙ by_call.1);
}
named-left shut why own number told lists now old new (Some x) was one by_call numbers same gone moves stood outboxes a k = by (went shut why (own x) x.conference old new (room_at old x.conference) (room_at new x.conference) refl refl one.own)
  where
    puts : Puts old.connections new.connections number None
    puts = gone x refl

    none_has : HasOutbox None x.n → ⊥
    none_has h = h

    stays : (j : ℕ) → StaysAs (connection_at old.connections j) (connection_at new.connections j)
    stays j = stay (eqb_tells number j)
      where
        left : (z : Option Connection) → StaysAs z None
        left None = tt
        left (Some z) = tt

        stay : (((nat_eq number j ≡ true) × (number ≡ j)) ⊎ ((nat_eq number j ≡ false) × (number ≢ j))) → StaysAs (connection_at old.connections j) (connection_at new.connections j)
        stay (inl t) = subst (λ (i : ℕ). StaysAs (connection_at old.connections i) (connection_at new.connections i)) t.1 (subst (StaysAs (connection_at old.connections number)) (sym puts.here) (left (connection_at old.connections number)))
        stay (inr t) = stays-as (connection_at old.connections j) (connection_at new.connections j) (place-same (connection_at old.connections j) (connection_at new.connections j) (puts.others j t.0))

    by : ((room_at old x.conference ≡ None) × (room_at new x.conference ≡ None)) ⊎ WentAt old new x.conference → Named now old new
    by (inl h) = absurd (none_has (subst (λ (z : Option Room). HasOutbox z x.n) h.0 (outboxes number x was)))
    by (inr h) =
        let t = by_call.there h.0 h.1 h.2 h.3 in
        let attached = attached-left (marked t.1.cut) (keeps-marked t.1.cut) lists now old.connections new.connections number x was puts (record { here = t.1.marked; others = t.2 }) a in
        named-in x.conference lists now told old new h.0 h.1 (without number (live_in lists x.conference)) t.1 h.2 h.3 one.others t.2 h.4 (moves x refl h.0 h.1 h.2 h.3) t.0 numbers stood attached
        (each-filter (IsKnown h.0) (λ l. not (l.number == number)) (live_in lists x.conference) (k x.conference h.0 h.2)) k stays

-- a connection was attached
pub named-attached : (shut : Option HubRefusal) (own : Room → List Event) (w : World) (c : ℕ) (told : List ℕ) (lists now : Concerned) (old new : Hub) → StandsFor old w → OneRoom shut None own c old new →
    ConcernedBy (attached_to (live_in lists c) (old.arrivals + 1) (Ok tt)) told (room_at old) (room_at new) c lists now → new.concerned ≡ now.numbers →
    ((r : Room) → room_at old c ≡ Some r → Puts old.connections new.connections (old.arrivals + 1) (Some (record { conference = c; n = length (conference_of r.ledger).members + 1; held = [] }))) →
    room_at old c ≢ None → Moves c old new → Stood new → AreAttached (live_in lists) (connection_at old.connections) → AreKnown (room_at old) (live_in lists) → Named now old new
named-attached shut own w c told lists now old new st one by_call numbers came there moves stood a k = by (went shut None own c old new (room_at old c) (room_at new c) refl refl one.own)
  where
    fresh : connection_at old.connections (old.arrivals + 1) ≡ None
    fresh = next-is-free old w st

    stays : (y : Connection) → Puts old.connections new.connections (old.arrivals + 1) (Some y) → (j : ℕ) → StaysAs (connection_at old.connections j) (connection_at new.connections j)
    stays y puts j = stay (eqb_tells (old.arrivals + 1) j)
      where
        stay : (((nat_eq (old.arrivals + 1) j ≡ true) × ((old.arrivals + 1) ≡ j)) ⊎ ((nat_eq (old.arrivals + 1) j ≡ false) × ((old.arrivals + 1) ≢ j))) → StaysAs (connection_at old.connections j) (connection_at new.connections j)
        stay (inl t) = subst (λ (z : Option Connection). StaysAs z (connection_at new.connections j)) (sym (ap (connection_at old.connections) (sym t.1) ∙ fresh)) tt
        stay (inr t) = stays-as (connection_at old.connections j) (connection_at new.connections j) (place-same (connection_at old.connections j) (connection_at new.connections j) (puts.others j t.0))

    by : ((room_at old c ≡ None) × (room_at new c ≡ None)) ⊎ WentAt old new c → Named now old new
    by (inl h) = absurd (there h.0)
    by (inr h) =
        let t = by_call.there h.0 h.1 h.2 h.3 in
        let y : Connection = record { conference = c; n = length (conference_of h.0.ledger).members + 1; held = [] } in
        let l : Live = joined_as h.0 (old.arrivals + 1) in
        let puts : Puts old.connections new.connections (old.arrivals + 1) (Some y) = came h.0 h.2 in
        let attached = attached-joined (marked t.1.cut) (keeps-marked t.1.cut) lists now old.connections new.connections (old.arrivals + 1) y l fresh puts refl refl (record { here = t.1.marked; others = t.2 }) a in
        named-in c lists now told old new h.0 h.1 (live_in lists c ++ l ∷ []) t.1 h.2 h.3 one.others t.2 h.4 (moves h.0 h.1 h.2 h.3) t.0 numbers stood attached
        (each-push (IsKnown h.0) (live_in lists c) l (k c h.0 h.2) (joined-known h.0 (old.arrivals + 1))) k (stays y puts)

-- what a call has done to a room, where it is said of some room now
pub moves-by : (c : ℕ) (old new : Hub) → ((r : Room) → room_at old c ≡ Some r → (s : Room) × (room_at new c ≡ Some s) × Went r s) → Moves c old new
moves-by c old new f r s was is = let t = f r was in subst (λ (z : Room). Went r z) (room_is t.0 s (sym t.1 ∙ is)) t.2

-- a conference opens without any connection
pub known-opened : {T : Type 0} (P : HubRefusal → Type 0) (res : Result T HubRefusal) (config : Configuration) (old new : Hub) (lists : Concerned) →
    MatchResult res (λ _. (room_at old config.conference ≡ None) × (room_at new config.conference ≡ Some (new_room config)) × ((d : ℕ) → nat_eq config.conference d ≡ false → room_at new d ≡ room_at old d)) P →
    OnErr res ((d : ℕ) → room_at new d ≡ room_at old d) → HaveOutboxes old → AreAttached (live_in lists) (connection_at old.connections) → AreKnown (room_at old) (live_in lists) → AreKnown (room_at new) (live_in lists)
known-opened P (Err r) config old new lists done same outboxes a k = known-same (room_at old) (room_at new) lists lists same (λ d. refl) k
known-opened P (Ok v) config old new lists done same outboxes a k =
    known-at config.conference (room_at old) (room_at new) lists lists (new_room config) done.1 done.2 (λ d e. refl) (nobody (live_in lists config.conference) refl) k
  where
    none_has : (n : ℕ) → HasOutbox None n → ⊥
    none_has n h = h

    nobody : (live : List Live) → live_in lists config.conference ≡ live → EachOf (IsKnown (new_room config)) (live_in lists config.conference)
    nobody [] e = subst (EachOf (IsKnown (new_room config))) (sym e) tt
    nobody (l ∷ live) e =
        let t = a.live config.conference l.number l.n (subst (λ (z : List Live). Stands z l.number l.n) (sym e) (inl (refl, refl))) in
        absurd (none_has t.0.n (subst (λ (y : Option Room). HasOutbox y t.0.n) (ap (room_at old) t.2 ∙ done.0) (outboxes l.number t.0 t.1)))

pub known-ledger : (r s : Room) → s.ledger ≡ r.ledger → (live : List Live) → EachOf (IsKnown r) live → EachOf (IsKnown s) live
known-ledger r s e [] h = tt
known-ledger r s e (l ∷ live) h =
    (subst (λ (z : Ledger). (z.is_broken || not (conference_of z).is_open) ≡ false → l.is_cut ≡ (not z.is_broken && is_cut (conference_of z) l.n)) (sym e) h.0, known-ledger r s e live h.1)

-- a parcel was taken
pub known-taken : (x : Option Connection) (result : Result (Option Parcel) HubRefusal) (old new : Hub) (lists : Concerned) → TakenOf x result old new → AreKnown (room_at old) (live_in lists) → AreKnown (room_at new) (live_in lists)
known-taken None result old new lists t k = known-same (room_at old) (room_at new) lists lists t.1.rooms (λ d. refl) k
known-taken (Some x) result old new lists t k =
    let f = t.2 in
    known-at x.conference (room_at old) (room_at new) lists lists f.after f.now f.others (λ d e. refl)
    (known-ledger f.before f.after (ap (λ (z : Room). z.ledger) f.gave.same) (live_in lists x.conference) (k x.conference f.before f.was)) k

-- of each connection it is known as before whether its member is cut
pub known-taken-all : (x : Option Connection) (result : Result Taken HubRefusal) (before after : List ℕ) (old new : Hub) (lists : Concerned) → TakenAll x result before after old new → AreKnown (room_at old) (live_in lists) → AreKnown (room_at new) (live_in lists)
known-taken-all None result before after old new lists t k = known-same (room_at old) (room_at new) lists lists t.2.rooms (λ d. refl) k
known-taken-all (Some x) result before after old new lists t k =
    let f = t.5 in
    let ledger : f.after.ledger ≡ f.before.ledger = ap (λ (z : Room). z.ledger) (each-same f.before f.after x.n t.1 f.took) in
    known-at x.conference (room_at old) (room_at new) lists lists f.after f.now f.others (λ d e. refl)
    (known-ledger f.before f.after ledger (live_in lists x.conference) (k x.conference f.before f.was)) k
