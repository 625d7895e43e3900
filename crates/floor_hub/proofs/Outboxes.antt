-- Each live connection keeps its outbox: no room loses one.
use Rattle.std.proofs.Common.{◌≡◌, ℕ, zero, suc, ◌≤◌, Bool, true, false, List, [], ◌∷◌, length, refl, sym, ◌∙◌, ap, subst, arith, Some, None}
use Rattle.std.specs.Prelude.{Option, nat_eq, slice_get, slice_set, Result, Ok, Err, IsErr, MatchOption, MatchResult, OnErr}
use Rattle.std.proofs.lemmas.Bool.{eqb-true}
use Rattle.std.proofs.lemmas.Option.{none-some}
use Rattle.floor_config.specs.Configuration.{Configuration}
use Rattle.floor_machine.specs.Parcel.{Parcel}
use Rattle.floor_machine.specs.declared.event.Event.{Event}
use Rattle.floor_room.specs.declared.outbox.NoMember.{NoMember}
use Rattle.floor_room.specs.Outbox.{Outbox}
use Rattle.floor_room.specs.Room.{Room, new_room}
use Rattle.floor_room.specs.Taking.{Gave, GivesFrom, GivesHeld, GivesIf, after_take, outbox_of}
use Rattle.floor_room.specs.Room.{is_kept}
use Rattle.floor_hub.specs.declared.refusal.HubRefusal.{HubRefusal}
use Rattle.floor_hub.specs.declared.connection.Connection.{Connection}
use Rattle.floor_hub.specs.Connections.{Connections, Puts, SameConnections, connection_at}
use Rattle.floor_hub.specs.Hub.{Hub, room_at}
use Rattle.floor_hub.specs.Rooms.{OneRoom, QueuesMore, RoomAfterIn, RoomOf, TakenOf}
use Rattle.floor_hub.specs.StandsFor.{HasOutbox, HaveOutboxes}

-- the room is still there, and has no fewer outboxes
abbrev pub Grows : Option Room → Option Room → Type 0
Grows None s = Unit {0}
Grows (Some r) None = ⊥
Grows (Some r) (Some s) = length r.outboxes ≤ length s.outboxes

-- the connection, where there is one now, was there before
abbrev pub WasThere : Option Connection → Option Connection → Type 0
WasThere x None = Unit {0}
WasThere None (Some y) = ⊥
WasThere (Some x) (Some y) = (y.conference ≡ x.conference) × (y.n ≡ x.n)

has-more : (y z : Option Room) (n : ℕ) → Grows y z → HasOutbox y n → HasOutbox z n
has-more None z n g h = absurd h
has-more (Some r) None n g h = absurd g
has-more (Some r) (Some s) n g h = (h.0, omega (arith, g, h.1))

-- where rooms grow and no connection is new
pub keeps-outboxes : (old new : Hub) → ((d : ℕ) → Grows (room_at old d) (room_at new d)) → ((k : ℕ) → WasThere (connection_at old.connections k) (connection_at new.connections k)) →
    HaveOutboxes old → HaveOutboxes new
keeps-outboxes old new grows were h number y is = by (connection_at old.connections number) refl (subst (WasThere (connection_at old.connections number)) is (were number))
  where
    by : (x : Option Connection) → connection_at old.connections number ≡ x → WasThere x (Some y) → HasOutbox (room_at new y.conference) y.n
    by None e was = absurd was
    by (Some x) e was =
        has-more (room_at old y.conference) (room_at new y.conference) y.n (grows y.conference)
        (subst (λ (c : ℕ). HasOutbox (room_at old c) y.n) (sym was.0) (subst (HasOutbox (room_at old x.conference)) (sym was.1) (h number x e)))

some_is : (x y : Connection) → ◌≡◌ {A = Option Connection} (Some x) (Some y) → x ≡ y
some_is x y e = cc

-- where rooms grow and one connection is new, which has its outbox
pub has-joined : (old new : Hub) (number : ℕ) (x : Connection) → ((d : ℕ) → Grows (room_at old d) (room_at new d)) → Puts old.connections new.connections number (Some x) →
    HasOutbox (room_at new x.conference) x.n → HaveOutboxes old → HaveOutboxes new
has-joined old new number x grows puts own h k y is = by (nat_eq number k) refl
  where
    by : (b : Bool) → nat_eq number k ≡ b → HasOutbox (room_at new y.conference) y.n
    by true e =
        let same : x ≡ y = some_is x y (sym puts.here ∙ ap (connection_at new.connections) (eqb-true number k e) ∙ is) in
        subst (λ (z : Connection). HasOutbox (room_at new z.conference) z.n) same own
    by false e = has-more (room_at old y.conference) (room_at new y.conference) y.n (grows y.conference) (h k y (sym (puts.others k e) ∙ is))

more-outboxes : (os ps : List Outbox) → QueuesMore os ps → length os ≤ length ps
more-outboxes [] ps h = omega arith
more-outboxes (o ∷ os) [] h = absurd h
more-outboxes (o ∷ os) (p ∷ ps) h = omega (arith, more-outboxes os ps h.2)

pub grows-same : (y z : Option Room) → z ≡ y → Grows y z
grows-same y z e = subst (Grows y) (sym e) (by y)
  where
    by : (x : Option Room) → Grows x x
    by None = tt
    by (Some r) = omega arith

-- where a call was for one room
pub grows-one : (shut_by why : Option HubRefusal) (own : Room → List Event) (c : ℕ) (old new : Hub) → OneRoom shut_by why own c old new → (d : ℕ) → Grows (room_at old d) (room_at new d)
grows-one shut_by why own c old new a d = by (nat_eq c d) refl
  where
    here : (y z : Option Room) → RoomAfterIn shut_by why own y z → Grows y z
    here None z a = tt
    here (Some r) None a = absurd a
    here (Some r) (Some s) a = more-outboxes r.outboxes s.outboxes a.outboxes

    by : (b : Bool) → nat_eq c d ≡ b → Grows (room_at old d) (room_at new d)
    by true e = subst (λ (i : ℕ). Grows (room_at old i) (room_at new i)) (eqb-true c d e) (here (room_at old c) (room_at new c) a.own)
    by false e = grows-same (room_at old d) (room_at new d) (a.others d e)

-- where it was for a connection's room
pub grows-of : (shut_by why : Option HubRefusal) (own : Connection → Room → List Event) (x : Option Connection) (old new : Hub) → RoomOf shut_by why own x old new → (d : ℕ) → Grows (room_at old d) (room_at new d)
grows-of shut_by why own None old new a d = grows-same (room_at old d) (room_at new d) (a.0.rooms d)
grows-of shut_by why own (Some x) old new a d = grows-one shut_by why (own x) x.conference old new a d

-- where a conference opens
pub grows-opened : {T : Type 0} (P : HubRefusal → Type 0) (res : Result T HubRefusal) (config : Configuration) (old new : Hub) →
    MatchResult res (λ _. (room_at old config.conference ≡ None) × (room_at new config.conference ≡ Some (new_room config)) × ((d : ℕ) → nat_eq config.conference d ≡ false → room_at new d ≡ room_at old d)) P →
    OnErr res ((d : ℕ) → room_at new d ≡ room_at old d) → (d : ℕ) → Grows (room_at old d) (room_at new d)
grows-opened P (Err r) config old new done same d = grows-same (room_at old d) (room_at new d) (same d)
grows-opened P (Ok v) config old new done same d = by (nat_eq config.conference d) refl
  where
    by : (b : Bool) → nat_eq config.conference d ≡ b → Grows (room_at old d) (room_at new d)
    by true e = subst (λ (y : Option Room). Grows y (room_at new d)) (sym (ap (room_at old) (sym (eqb-true config.conference d e)) ∙ done.0)) tt
    by false e = grows-same (room_at old d) (room_at new d) (done.2 d e)

-- what an outbox gives costs no outbox

set_length : (os : List Outbox) (k : ℕ) (o : Outbox) → length os ≤ length (slice_set os k o)
set_length [] k o = omega arith
set_length (p ∷ os) zero o = omega arith
set_length (p ∷ os) (suc k) o = omega (arith, set_length os k o)

same_length : (os ps : List Outbox) → ps ≡ os → length os ≤ length ps
same_length os ps e = omega (arith, ap length e)

held_length : (os ps : List Outbox) (k : ℕ) (o : Outbox) (waits : List Parcel) (given : Result (Option Parcel) NoMember) → GivesHeld os ps (suc k) o waits given → length os ≤ length ps
held_length os ps k o [] given h = same_length os ps h.1
held_length os ps k o (p ∷ rest) given h = omega (arith, ap length h.1, set_length os k (after_take o rest))

given_length : (os ps : List Outbox) (n : ℕ) (y : Option Outbox) (given : Result (Option Parcel) NoMember) → outbox_of os n ≡ y → GivesFrom os ps n y given → length os ≤ length ps
given_length os ps n None given is h = same_length os ps h.1
given_length os ps zero (Some o) given is h = absurd (none-some o is)
given_length os ps (suc k) (Some o) given is h = held_length os ps k o o.held given h

may_length : (b : Bool) (os ps : List Outbox) (n : ℕ) (given : Result (Option Parcel) NoMember) → GivesIf b os ps n given → length os ≤ length ps
may_length true os ps n given h = given_length os ps n (outbox_of os n) given refl h
may_length false os ps n given h = same_length os ps h.1

pub gave-length : (r s : Room) (n : ℕ) (given : Result (Option Parcel) NoMember) → Gave r s n given → length r.outboxes ≤ length s.outboxes
gave-length r s n given g = may_length (is_kept r) r.outboxes s.outboxes n given g.given

-- where one room has as many outboxes, and all others are as they were
pub grows-at : (c : ℕ) (old new : Hub) (r s : Room) → room_at old c ≡ Some r → room_at new c ≡ Some s → length r.outboxes ≤ length s.outboxes → ((d : ℕ) → nat_eq c d ≡ false → room_at new d ≡ room_at old d) →
    (d : ℕ) → Grows (room_at old d) (room_at new d)
grows-at c old new r s was now more others d = by (nat_eq c d) refl
  where
    own : Grows (room_at old c) (room_at new c)
    own = subst (λ (y : Option Room). Grows y (room_at new c)) (sym was) (subst (Grows (Some r)) (sym now) more)

    by : (b : Bool) → nat_eq c d ≡ b → Grows (room_at old d) (room_at new d)
    by true e = subst (λ (i : ℕ). Grows (room_at old i) (room_at new i)) (eqb-true c d e) own
    by false e = grows-same (room_at old d) (room_at new d) (others d e)

-- where a parcel is taken
pub grows-taken : (x : Option Connection) (result : Result (Option Parcel) HubRefusal) (old new : Hub) → TakenOf x result old new → (d : ℕ) → Grows (room_at old d) (room_at new d)
grows-taken None result old new t d = grows-same (room_at old d) (room_at new d) (t.1.rooms d)
grows-taken (Some x) result old new t d =
    let f = t.2 in
    grows-at x.conference old new f.before f.after f.was f.now (gave-length f.before f.after x.n (Ok t.0) f.gave) f.others d

there-same : (x : Option Connection) → WasThere x x
there-same None = tt
there-same (Some x) = (refl, refl)

pub were-same : (old new : Connections) → SameConnections old new → (k : ℕ) → WasThere (connection_at old k) (connection_at new k)
were-same old new same k = subst (WasThere (connection_at old k)) (sym (same k)) (there-same (connection_at old k))

-- where a call was for one connection, which stays or goes
pub were-of : (old new : Connections) (number : ℕ) (y : Option Connection) → connection_at old number ≡ y → (connection_at old number ≡ None → SameConnections old new) →
    ((x : Connection) → connection_at old number ≡ Some x → (z : Option Connection) × WasThere (Some x) z × Puts old new number z) → (k : ℕ) → WasThere (connection_at old k) (connection_at new k)
were-of old new number None is absent there k = were-same old new (absent is) k
were-of old new number (Some x) is absent there k = by (nat_eq number k) refl
  where
    by : (b : Bool) → nat_eq number k ≡ b → WasThere (connection_at old k) (connection_at new k)
    by true e =
        let t = there x is in
        subst (λ (i : ℕ). WasThere (connection_at old i) (connection_at new i)) (eqb-true number k e)
        (subst (λ (y : Option Connection). WasThere y (connection_at new number)) (sym is) (subst (WasThere (Some x)) (sym t.2.here) t.1))
    by false e = subst (WasThere (connection_at old k)) (sym ((there x is).2.others k e)) (there-same (connection_at old k))

-- an outbox is in a room
pub outbox-room : (y : Option Room) (n : ℕ) → HasOutbox y n → (r : Room) × (y ≡ Some r) × (1 ≤ n) × (n ≤ length r.outboxes)
outbox-room None n h = absurd h
outbox-room (Some r) n h = (r, refl, h.0, h.1)

get-there : (os : List Outbox) (k : ℕ) → suc k ≤ length os → (o : Outbox) × (slice_get os k ≡ Some o)
get-there [] k l = absurd (omega arith)
get-there (o ∷ os) zero l = (o, refl)
get-there (o ∷ os) (suc k) l = get-there os k (omega arith)

outbox-there : (os : List Outbox) (n : ℕ) → 1 ≤ n → n ≤ length os → (o : Outbox) × (outbox_of os n ≡ Some o)
outbox-there os zero first last = absurd (omega arith)
outbox-there os (suc k) first last = get-there os k last

-- a member that has an outbox is given what waits
pub given-ok : (r new : Room) (n : ℕ) (given : Result (Option Parcel) NoMember) → 1 ≤ n → n ≤ length r.outboxes → Gave r new n given → (p : Option Parcel) × (given ≡ Ok p)
given-ok r new n (Ok p) first last g = (p, refl)
given-ok r new n (Err e) first last g = may (is_kept r) g.given
  where
    err_ok : (p : Option Parcel) → ◌≡◌ {A = Result (Option Parcel) NoMember} (Err e) (Ok p) → ⊥
    err_ok p h = cc

    by : (o : Outbox) (held : List Parcel) → GivesHeld r.outboxes new.outboxes n o held (Err e) → ⊥
    by o [] h = err_ok None h.0
    by o (p ∷ rest) h = err_ok (Some p) h.0

    o : (o : Outbox) × (outbox_of r.outboxes n ≡ Some o)
    o = outbox-there r.outboxes n first last

    may : (b : Bool) → GivesIf b r.outboxes new.outboxes n (Err e) → (p : Option Parcel) × (◌≡◌ {A = Result (Option Parcel) NoMember} (Err e) (Ok p))
    may true h = absurd (by o.0 o.0.held (subst (λ (y : Option Outbox). GivesFrom r.outboxes new.outboxes n y (Err e)) o.1 h))
    may false h =
        absurd (err_ok None (subst (λ (y : Option Outbox). MatchOption y (IsErr {T = Option Parcel} (Err e)) (λ z. ◌≡◌ {A = Result (Option Parcel) NoMember} (Err e) (Ok None))) o.1 h.0))
