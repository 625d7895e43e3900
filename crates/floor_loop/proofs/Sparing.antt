-- Nobody is to be shut down without a reason, and what was written whole is acknowledged.
use Rattle.std.proofs.Common.{◌≡◌, ◌≢◌, ◌⊎◌, inl, inr, ℕ, List, [], true, false, refl, sym, ◌∙◌, ap, subst, drop, cond, Bool, Some, None}
use Rattle.std.specs.Prelude.{Option, Result, Ok, Err, IfErr, is_some, nat_eq, option_and_then}
use Rattle.std.specs.Option.{option_map, option_map_or}
use Rattle.std.specs.Map.{lookup}
use Rattle.std.proofs.lemmas.Bool.{eqb-true}
use Rattle.std.proofs.lemmas.Bool.Decides.{eqb_tells}
use Rattle.std.proofs.lemmas.Option.{none-some}
use Rattle.floor_machine.specs.declared.event.Event.{Event}
use Rattle.floor_machine.specs.declared.event.Event.TheVariants as event
use Rattle.floor_machine.specs.declared.machine.Refusal.TheVariants.{Memory}
use Rattle.floor_room.specs.declared.refusal.RoomRefusal.{RoomRefusal}
use Rattle.floor_room.specs.declared.refusal.RoomRefusal.TheVariants.{Refused as ByMachine}
use Rattle.floor_room.specs.Ledger.{IsRefusedBy, Ledger, refusal}
use Rattle.floor_room.specs.Room.{Room}
use Rattle.floor_hub.specs.declared.connection.Connection.{Connection}
use Rattle.floor_hub.specs.declared.refusal.HubRefusal.{HubRefusal}
use Rattle.floor_hub.specs.declared.refusal.HubRefusal.TheVariants.{ByRoom}
use Rattle.floor_hub.specs.declared.step.Taken.{Taken}
use Rattle.floor_hub.specs.Connections.{Puts, SamePlace, StayLive, connection_at}
use Rattle.floor_hub.specs.Hub.{Hub, room_at}
use Rattle.floor_hub.specs.Rooms.{IsRefusedIn, RoomAfter, RoomAfterIn, RoomOf, TakenAll, by_broken, by_memory, refusal_in, took_event}
use Rattle.floor_loop.specs.Loop.{Attended, Loop, Outgoing, outgoing_at, outgoing_in}
use Rattle.floor_loop.specs.Written.{Acknowledges, IsOver, IsServing, IsSparedOrOver, IsTaken, Spares}
use Rattle.floor_loop.specs.steps.Changed.{changed, whole_of}
use Rattle.floor_loop.specs.steps.Moved.{IsSpared, OverStays, SameEnds, SameLedgers, WasLive, loop_of}
use Rattle.floor_loop.specs.steps.Taken.{TakenFor}
use Rattle.floor_loop.proofs.Altering.{look-here, look-other}
use Rattle.floor_loop.proofs.Over.{from-ledgers, over-same}
use Rattle.floor_loop.proofs.Stepping.{some-out}
use Rattle.floor_loop.proofs.Writing.{changed-at, changed-beside}

some_connection : (x y : Connection) → ◌≡◌ {A = Option Connection} (Some x) (Some y) → x ≡ y
some_connection x y e = cc

some_room : (r s : Room) → ◌≡◌ {A = Option Room} (Some r) (Some s) → r ≡ s
some_room r s e = cc

-- those that stay live stay in their conferences
abbrev pub StayIn : Hub → Hub → Type 0
StayIn old new = (k : ℕ) (x y : Connection) → connection_at old.connections k ≡ Some x → connection_at new.connections k ≡ Some y → y.conference ≡ x.conference

-- what was done to others before changes nothing for this one
pub spared-beside : (hub : Hub) (a b c : Attended) (k : ℕ) → outgoing_in b k ≡ outgoing_in a k → IsSpared hub b c k → IsSpared hub a c k
spared-beside hub a b c k same f x r o p is_x is_r is_o is_p conference = f x r o p is_x is_r (same ∙ is_o) is_p conference

pub stay-in : (old new : Hub) → ((k : ℕ) (y : Connection) → connection_at new.connections k ≡ Some y → WasLive old k y) → StayIn old new
stay-in old new live k x y is_x is_y =
    let w = live k y is_y in
    w.conference ∙ ap (λ (z : Connection). z.conference) (some_connection w.connection x (sym w.live ∙ is_x))

-- whom waking spared
pub spared-one : (old new : Loop) (k : ℕ) → IsServing old → StayIn old.hub new.hub →
    ((x y : Connection) → connection_at old.hub.connections k ≡ Some x → connection_at new.hub.connections k ≡ Some y → IsSpared new.hub old.attended new.attended k) → IsSparedOrOver old new k
spared-one old new k serving stay f x y s o p is_x is_y is_s is_o is_p =
    let at = serving k x is_x in
    let same : at.outgoing ≡ o = some-out at.outgoing o (sym at.found ∙ is_o) in
    f x y is_x is_y y s o p is_y is_s is_o is_p (ap (λ (z : Outgoing). z.conference) (sym same) ∙ at.conference ∙ sym (stay k x y is_x is_y))

pub spares-by : (old new : Loop) → IsServing old → StayIn old.hub new.hub →
    ((k : ℕ) (x y : Connection) → connection_at old.hub.connections k ≡ Some x → connection_at new.hub.connections k ≡ Some y → IsSpared new.hub old.attended new.attended k) → Spares old new
spares-by old new serving stay f k = spared-one old new k serving stay (f k)

-- what is done to others behind changes nothing for this one
pub spared-before : (hub : Hub) (a b c : Attended) (k : ℕ) → outgoing_in c k ≡ outgoing_in b k → IsSpared hub a b k → IsSpared hub a c k
spared-before hub a b c k same f x r o p is_x is_r is_o is_p conference = f x r o p is_x is_r is_o (sym same ∙ is_p) conference

-- one call after another
pub spared-through : (a b c : Loop) (k : ℕ) → IsServing b → ((k : ℕ) (z : Connection) → connection_at c.hub.connections k ≡ Some z → WasLive b.hub k z) → OverStays b.hub c.hub →
    IsSparedOrOver a b k → IsSparedOrOver b c k → IsSparedOrOver a c k
spared-through a b c k serving live over f g x z t o q is_x is_z is_t is_o is_q =
    let w = live k z is_z in
    let at = serving k w.connection w.live in
    let u = over w.connection.conference at.room at.there in
    let same : u.0 ≡ t = some_room u.0 t (sym u.1 ∙ ap (room_at c.hub) (sym w.conference) ∙ is_t) in
    elim (g w.connection z t at.outgoing q w.live is_z is_t at.found is_q) [
      | inr h ↦ inr h
      | inl e ↦ elim (f x w.connection at.room o at.outgoing is_x w.live at.there is_o at.found) [
        | inl before ↦ inl (e ∙ before)
        | inr h ↦ inr (subst (λ (s : Room). IsOver s z.n) same (u.2 z.n (subst (IsOver at.room) (sym w.n) h)))
      ]
    ]

-- nor does what was done to one that isn't live
pub others-spared : (hub : Hub) (a b c : Attended) (number k : ℕ) (y : Connection) → connection_at hub.connections number ≡ None → connection_at hub.connections k ≡ Some y → (nat_eq number k ≡ false → outgoing_in b k ≡ outgoing_in a k) → IsSpared hub b c k → IsSpared hub a c k
others-spared hub a b c number k y gone is_y same f = by (eqb_tells number k)
  where
    by : (((nat_eq number k ≡ true) × (number ≡ k)) ⊎ ((nat_eq number k ≡ false) × (number ≢ k))) → IsSpared hub a c k
    by (inl t) = absurd (none-some y (sym gone ∙ ap (connection_at hub.connections) t.1 ∙ is_y))
    by (inr t) = spared-beside hub a b c k (same t.0) f

-- and of one that has just come
pub come-spared : (old hub : Hub) (a b c : Attended) (number k : ℕ) (x : Connection) → connection_at old.connections number ≡ None → connection_at old.connections k ≡ Some x → ((k : ℕ) → nat_eq number k ≡ false → outgoing_in b k ≡ outgoing_in a k) → IsSpared hub b c k → IsSpared hub a c k
come-spared old hub a b c number k x fresh is_x same f = by (eqb_tells number k)
  where
    by : (((nat_eq number k ≡ true) × (number ≡ k)) ⊎ ((nat_eq number k ≡ false) × (number ≢ k))) → IsSpared hub a c k
    by (inl t) = absurd (none-some x (sym fresh ∙ ap (connection_at old.connections) t.1 ∙ is_x))
    by (inr t) = spared-beside hub a b c k (same k t.0) f

pub come-stay : (old new : Hub) (number : ℕ) (z : Option Connection) → connection_at old.connections number ≡ None → Puts old.connections new.connections number z → StayIn old new
come-stay old new number z fresh put k x y is_x is_y = by (eqb_tells number k)
  where
    by : (((nat_eq number k ≡ true) × (number ≡ k)) ⊎ ((nat_eq number k ≡ false) × (number ≢ k))) → y.conference ≡ x.conference
    by (inl t) = absurd (none-some x (sym fresh ∙ ap (connection_at old.connections) t.1 ∙ is_x))
    by (inr t) = ap (λ (i : Connection). i.conference) (some_connection y x (sym is_y ∙ put.others k t.0 ∙ is_x))

-- nobody's end has changed
pub spares-same : (old new : Loop) → SameEnds old.attended new.attended → Spares old new
spares-same old new same k x y s o p is_x is_y is_s is_o is_p =
    inl (sym (ap (λ (z : Option Outgoing). option_and_then (λ o. o.ends) z) is_p) ∙ same k ∙ ap (λ (z : Option Outgoing). option_and_then (λ o. o.ends) z) is_o)

-- nobody's end has changed before
pub spared-behind : (old mid new : Loop) (k : ℕ) → ((x : Connection) → connection_at old.hub.connections k ≡ Some x → (y : Connection) × (connection_at mid.hub.connections k ≡ Some y)) →
    ((k : ℕ) (o : Outgoing) → outgoing_at old k ≡ Some o → (p : Outgoing) × (outgoing_at mid k ≡ Some p) × (p.ends ≡ o.ends)) → IsSparedOrOver mid new k → IsSparedOrOver old new k
spared-behind old mid new k live found f x y s o q is_x is_y is_s is_o is_q =
    let t = found k o is_o in
    let m = live x is_x in
    elim (f m.0 y s t.0 q m.1 is_y is_s t.1 is_q) [ inl e ↦ inl (e ∙ t.2) | inr over ↦ inr over ]

pub spares-behind : (old mid new : Loop) → ((k : ℕ) → connection_at mid.hub.connections k ≡ connection_at old.hub.connections k) →
    ((k : ℕ) (o : Outgoing) → outgoing_at old k ≡ Some o → (p : Outgoing) × (outgoing_at mid k ≡ Some p) × (p.ends ≡ o.ends)) → Spares mid new → Spares old new
spares-behind old mid new same found f k = spared-behind old mid new k (λ x is. (x, same k ∙ is)) found (f k)

-- a connection that stays live is there
pub live-there : (old new : Hub) → StayLive old.connections new.connections → (k : ℕ) (x : Connection) → connection_at old.connections k ≡ Some x → (y : Connection) × (connection_at new.connections k ≡ Some y)
live-there old new stay k x is = by (connection_at new.connections k) refl (subst (λ (z : Option Connection). SamePlace z (connection_at new.connections k)) is (stay k))
  where
    by : (z : Option Connection) → connection_at new.connections k ≡ z → SamePlace (Some x) z → (y : Connection) × (connection_at new.connections k ≡ Some y)
    by None e h = absurd h
    by (Some y) e h = (y, e)

-- nobody else's end has changed behind
pub spared-last : (a : Loop) (hub : Hub) (b c : Attended) (k : ℕ) → outgoing_in c k ≡ outgoing_in b k → IsSparedOrOver a (loop_of hub b) k → IsSparedOrOver a (loop_of hub c) k
spared-last a hub b c k same f x y s o q is_x is_y is_s is_o is_q = f x y s o q is_x is_y is_s is_o (sym same ∙ is_q)

-- time goes on, and nothing else changes
pub passed-found : (a b : Attended) → b.outgoing ≡ a.outgoing → (k : ℕ) (o : Outgoing) → outgoing_in a k ≡ Some o → (p : Outgoing) × (outgoing_in b k ≡ Some p) × (p.ends ≡ o.ends)
passed-found a b same k o is = (o, ap (λ (es : List (ℕ × Outgoing)). lookup (nat_eq k) es) same ∙ is, refl)

-- nobody's end has changed behind, where rooms keep their ledgers
pub spares-then : (old mid new : Loop) → Spares old mid → IsServing mid → ((k : ℕ) (z : Connection) → connection_at new.hub.connections k ≡ Some z → WasLive mid.hub k z) → SameLedgers mid.hub new.hub → SameEnds mid.attended new.attended → Spares old new
spares-then old mid new f serving live ledgers ends k x z t o q is_x is_z is_t is_o is_q =
    let w = live k z is_z in
    let at = serving k w.connection w.live in
    let u = ledgers w.connection.conference at.room at.there in
    let same : t ≡ u.0 = some_room t u.0 (sym is_t ∙ ap (room_at new.hub) w.conference ∙ u.1) in
    let left : q.ends ≡ at.outgoing.ends =
    sym (ap (λ (i : Option Outgoing). option_and_then (λ o. o.ends) i) is_q) ∙ ends k ∙ ap (λ (i : Option Outgoing). option_and_then (λ o. o.ends) i) at.found in
    elim (f k x w.connection at.room o at.outgoing is_x w.live at.there is_o at.found) [
      | inl e ↦ inl (left ∙ e)
      | inr over ↦ inr (over-same at.room t w.connection.n z.n (ap (λ (r : Room). r.ledger) same ∙ u.2) w.n over)
    ]

-- a change that leaves by when each is to be shut down
pub ends-changed : (f : Outgoing → Outgoing) (number : ℕ) (a b : Attended) → b.outgoing ≡ changed f number a.outgoing → ((o : Outgoing) → (f o).ends ≡ o.ends) → SameEnds a b
ends-changed f number a b next same k = ap (λ (es : List (ℕ × Outgoing)). option_and_then (λ o. o.ends) (lookup (nat_eq k) es)) next ∙ by (eqb_tells number k)
  where
    mapped : (z : Option Outgoing) → option_and_then (λ o. o.ends) (option_map f z) ≡ option_and_then (λ o. o.ends) z
    mapped None = refl
    mapped (Some o) = same o

    by : (((nat_eq number k ≡ true) × (number ≡ k)) ⊎ ((nat_eq number k ≡ false) × (number ≢ k))) →
        option_and_then (λ (o : Outgoing). o.ends) (lookup (nat_eq k) (changed f number a.outgoing)) ≡ option_and_then (λ (o : Outgoing). o.ends) (outgoing_in a k)
    by (inl t) =
        subst (λ (i : ℕ). option_and_then (λ (o : Outgoing). o.ends) (lookup (nat_eq i) (changed f number a.outgoing)) ≡ option_and_then (λ (o : Outgoing). o.ends) (outgoing_in a i)) t.1
        (ap (λ (z : Option Outgoing). option_and_then (λ o. o.ends) z) (look-here f number a.outgoing) ∙ mapped (outgoing_in a number))
    by (inr t) = ap (λ (z : Option Outgoing). option_and_then (λ o. o.ends) z) (look-other f number k a.outgoing t.0)

pub ends-found : (f : Outgoing → Outgoing) (number : ℕ) (a b : Attended) → b.outgoing ≡ changed f number a.outgoing → ((o : Outgoing) → (f o).ends ≡ o.ends) →
    (k : ℕ) (o : Outgoing) → outgoing_in a k ≡ Some o → (p : Outgoing) × (outgoing_in b k ≡ Some p) × (p.ends ≡ o.ends)
ends-found f number a b next same k o is = by (eqb_tells number k)
  where
    by : (((nat_eq number k ≡ true) × (number ≡ k)) ⊎ ((nat_eq number k ≡ false) × (number ≢ k))) → (p : Outgoing) × (outgoing_in b k ≡ Some p) × (p.ends ≡ o.ends)
    by (inl t) = (f o, ap (outgoing_in b) (sym t.1) ∙ changed-at f number a b next o (ap (outgoing_in a) t.1 ∙ is), same o)
    by (inr t) = (o, changed-beside f number a b next k t.0 ∙ is, refl)

-- rooms that keep their ledgers

pub ledgers-same : (old new : Hub) → ((c : ℕ) → room_at new c ≡ room_at old c) → SameLedgers old new
ledgers-same old new rooms c r is = (r, rooms c ∙ is, refl)

pub ledgers-both : (a b c : Hub) → SameLedgers a b → SameLedgers b c → SameLedgers a c
ledgers-both a b c f g d r is =
    let s = f d r is in
    let t = g d s.0 s.1 in
    (t.0, t.1, t.2 ∙ s.2)

-- what was taken out of a room leaves its ledger
pub ledgers-taken : (number : ℕ) (before after : List (ℕ × Outgoing)) (old new : Hub) → TakenFor number before after old new → SameLedgers old new
ledgers-taken number before after old new t = by (lookup (nat_eq number) before) refl
  where
    unchanged : new ≡ old → SameLedgers old new
    unchanged e = ledgers-same old new (λ c. ap (λ (h : Hub). room_at h c) e)

    asked : (o : Outgoing) (z : Option Connection) (res : Result Taken HubRefusal) → TakenAll z res o.rest t.rest old new → SameLedgers old new
    asked o None res h = ledgers-same old new h.2.rooms
    asked o (Some x) res h = from-ledgers x.conference x.n h.1 old new h.5

    by : (z : Option Outgoing) → lookup (nat_eq number) before ≡ z → SameLedgers old new
    by None e = unchanged (t.none e)
    by (Some o) e = let a = t.took o e in asked o (connection_at old.connections number) a.result a.given

-- the hub was asked for an acknowledgement, and what its room has done stands there still

module _ (e : Event) (r s t : Room) (ledger : t.ledger ≡ s.ledger) where
  broken_by : (reason : RoomRefusal) (why : HubRefusal) → why ≡ ByRoom reason → reason ≡ ByMachine Memory → ◌≡◌ {A = Option HubRefusal} (Some why) by_memory
  broken_by reason why is memory = ap (λ (z : HubRefusal). Some z) (is ∙ ap (λ (z : RoomRefusal). ByRoom z) memory)

  refused_by : (own : List Event) (why : HubRefusal) (reason : RoomRefusal) (z : Option RoomRefusal) → refusal r.ledger e ≡ z → why ≡ ByRoom reason → IsRefusedBy {T = Unit {0}} z (Err reason) → RoomAfter by_broken (Some why) own r s →
      (is_some (refusal r.ledger e) ≡ true) ⊎ (t.ledger.is_broken ≡ true)
  refused_by own why reason None is by h after = inr (ap (λ (l : Ledger). l.is_broken) ledger ∙ after.broken.1 (inr (broken_by reason why by h)))
  refused_by own why reason (Some q) is by h after = inl (ap is_some is)

pub acknowledged-by : (number k : ℕ) (old mid new : Hub) (res : Result (Unit {0}) HubRefusal) → RoomOf by_broken (refusal_in res) (took_event k) (connection_at old.connections number) old mid →
    ((x : Connection) (r : Room) → connection_at old.connections number ≡ Some x → room_at old x.conference ≡ Some r → IfErr res (IsRefusedIn (event.Took x.n k) r)) → SameLedgers mid new → Acknowledges number k old new
acknowledged-by number k old mid new res one refused same x r is_x is_r =
    let o = subst (λ (z : Option Connection). RoomOf by_broken (refusal_in res) (took_event k) z old mid) is_x one in
    by (room_at mid x.conference) refl (subst (λ (z : Option Room). RoomAfterIn by_broken (refusal_in res) (took_event k x) z (room_at mid x.conference)) is_r o.own)
  where
    taken : (s t : Room) (y : Result (Unit {0}) HubRefusal) → t.ledger ≡ s.ledger → RoomAfter by_broken (refusal_in y) (took_event k x r) r s → IfErr y (IsRefusedIn (event.Took x.n k) r) → IsTaken r t x.n k
    taken s t (Ok v) ledger after h = inl (ap (λ (l : Ledger). l.journal) ledger ∙ after.journal)
    taken s t (Err why) ledger after h = inr (refused_by (event.Took x.n k) r s t ledger (took_event k x r) why h.0 (refusal r.ledger (event.Took x.n k)) refl h.1 h.2 after)

    by : (z : Option Room) → room_at mid x.conference ≡ z → RoomAfterIn by_broken (refusal_in res) (took_event k x) (Some r) z → (t : Room) × (room_at new x.conference ≡ Some t) × IsTaken r t x.n k
    by None e h = absurd h
    by (Some s) e h = let u = same x.conference s e in (u.0, u.1, taken s u.0 res u.2 h (refused x r is_x is_r))

-- where nothing is left, parcels are there to be acknowledged
pub none-whole : (z : Option Outgoing) (count : ℕ) → option_and_then (λ o. whole_of (drop count o.rest) o.parcels) z ≡ None → drop count (option_map_or (λ o. o.rest) z []) ≡ [] → option_map_or (λ o. o.parcels) z 0 ≡ 0
none-whole None count e left = refl
none-whole (Some o) count e left = by o.parcels (nat_eq o.parcels 0) refl (sym (ap (λ (rest : List ℕ). whole_of rest o.parcels) left) ∙ e)
  where
    by : (k : ℕ) (b : Bool) → nat_eq k 0 ≡ b → whole_of [] k ≡ None → k ≡ 0
    by k true same h = eqb-true k 0 same
    by k false same h = absurd (some_none k (sym (ap (λ (z : Bool). cond z None (Some k)) same) ∙ h))
      where
        some_none : (i : ℕ) → ◌≡◌ {A = Option ℕ} (Some i) None → ⊥
        some_none i g = cc
