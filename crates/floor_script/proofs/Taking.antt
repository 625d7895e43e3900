-- What is taken of a connection, parcel by parcel.
use Rattle.std.proofs.Common.{◌≡◌, ◌≢◌, ℕ, zero, suc, ◌+◌, ◌<◌, Bool, true, false, List, [], ◌∷◌, ◌++◌, length, length-append, refl, sym, ◌∙◌, ap, subst, append_assoc, append-nil, arith, Some, None}
use Rattle.std.specs.Prelude.{◌==◌, ◌&&◌, if◌then◌else◌, IsErr, MatchOption, Option, option_to_list, Result, Ok, Err, nat_eq, slice_get, slice_set}
use Rattle.std.specs.Option.{option_map, option_map_or}
use Rattle.std.proofs.lemmas.Bool.{eqb-false, eqb-true}
use Rattle.std.proofs.lemmas.Option.{none-some}
use Rattle.floor_machine.specs.Parcel.{Parcel}
use Rattle.floor_room.specs.declared.outbox.NoMember.{NoMember}
use Rattle.floor_room.specs.Outbox.{Outbox}
use Rattle.floor_room.specs.Room.{Room, is_kept}
use Rattle.floor_room.specs.Taking.{Gave, GivesFrom, GivesHeld, GivesIf, after_take, outbox_of, with_outbox}
use Rattle.floor_hub.specs.declared.refusal.HubRefusal.{HubRefusal}
use Rattle.floor_hub.specs.declared.connection.Connection.{Connection}
use Rattle.floor_hub.specs.Connections.{connection_at}
use Rattle.floor_hub.specs.Hub.{Hub, room_at}
use Rattle.floor_hub.specs.Rooms.{SameHub, TakenFrom, TakenOf}
use Rattle.floor_hub.specs.StandsFor.{StandsFor}
use Rattle.floor_hub.specs.World.{World}
use Rattle.floor_script.specs.steps.Holding.{outbox_in, taken_in}
use Rattle.floor_script.specs.steps.Taking.{HandsOut, HasOutbox, IsKeptIn, TakenOff, TakenOne, bare, count_for, held, held_for}

-- an outbox that was written is read
set_same : (os : List Outbox) (k : ℕ) (o q : Outbox) → slice_get os k ≡ Some o → slice_get (slice_set os k q) k ≡ Some q
set_same [] k o q is = absurd (none-some o is)
set_same (x ∷ os) zero o q is = refl
set_same (x ∷ os) (suc k) o q is = set_same os k o q is

set_other : (os : List Outbox) (k j : ℕ) (q : Outbox) → k ≢ j → slice_get (slice_set os k q) j ≡ slice_get os j
set_other [] k j q ne = refl
set_other (x ∷ os) zero zero q ne = absurd (ne refl)
set_other (x ∷ os) zero (suc j) q ne = refl
set_other (x ∷ os) (suc k) zero q ne = refl
set_other (x ∷ os) (suc k) (suc j) q ne = set_other os k j q (λ e. ne (ap suc e))

box_same : (os : List Outbox) (n : ℕ) (o q : Outbox) → outbox_of os n ≡ Some o → outbox_of (with_outbox os n q) n ≡ Some q
box_same os zero o q is = absurd (none-some o is)
box_same os (suc k) o q is = set_same os k o q is

box_other : (os : List Outbox) (n m : ℕ) (q : Outbox) → n ≢ m → outbox_of (with_outbox os n q) m ≡ outbox_of os m
box_other os zero m q ne = refl
box_other os (suc k) zero q ne = refl
box_other os (suc k) (suc j) q ne = set_other os k j q (λ e. ne (ap suc e))

abbrev held_in : Option Outbox → List Parcel
held_in box = option_map_or (λ outbox. outbox.held) box []

abbrev count_in : Option Outbox → ℕ
count_in box = option_map_or (λ outbox. outbox.taken) box 0

-- what a room gives is the first of what waits
record FromRoom (old new : Room) (n : ℕ) (parcel : Option Parcel) : Type 0 where
  waited : held_in (outbox_of old.outboxes n) ≡ option_to_list parcel ++ held_in (outbox_of new.outboxes n)
  counted : count_in (outbox_of new.outboxes n) ≡ count_in (outbox_of old.outboxes n) + length (option_to_list parcel)
  there : (outbox : Outbox) × (outbox_of old.outboxes n ≡ Some outbox)
  none : is_kept old ≡ true → option_to_list parcel ≡ [] → held_in (outbox_of new.outboxes n) ≡ []
  rest : bare new ≡ bare old
  others : (m : ℕ) → n ≢ m → outbox_of new.outboxes m ≡ outbox_of old.outboxes m

ok_is : (p q : Option Parcel) → ◌≡◌ {A = Result (Option Parcel) NoMember} (Ok p) (Ok q) → p ≡ q
ok_is p q e = cc

one_none : (p : Parcel) → ◌≡◌ {A = List Parcel} (p ∷ []) [] → ⊥
one_none p e = cc

not_ok : false ≡ true → ⊥
not_ok e = cc

true_false : true ≡ false → ⊥
true_false e = cc

from_room : (old new : Room) (n : ℕ) (parcel : Option Parcel) → Gave old new n (Ok parcel) → FromRoom old new n parcel
from_room old new n parcel gave = split (is_kept old) refl gave.given
  where
    still : bare new ≡ bare old
    still = ap (λ (r : Room). bare r) gave.same

    holds : (o : Outbox) (waiting : List Parcel) → outbox_of old.outboxes n ≡ Some o → o.held ≡ waiting → GivesHeld old.outboxes new.outboxes n o waiting (Ok parcel) → FromRoom old new n parcel
    holds o [] is has h =
        let same : (m : ℕ) → outbox_of new.outboxes m ≡ outbox_of old.outboxes m = λ m. ap (λ (os : List Outbox). outbox_of os m) h.1 in
        let empty : held_in (outbox_of old.outboxes n) ≡ [] = ap held_in is ∙ has in
        let now : held_in (outbox_of new.outboxes n) ≡ [] = ap held_in (same n) ∙ empty in
        let nothing : option_to_list parcel ≡ [] = ap (λ (p : Option Parcel). option_to_list p) (ok_is parcel None h.0) in
        let sum : count_in (outbox_of old.outboxes n) ≡ count_in (outbox_of old.outboxes n) + 0 = omega arith in record {
          waited = empty ∙ sym now ∙ ap (λ (l : List Parcel). l ++ held_in (outbox_of new.outboxes n)) (sym nothing);
          counted = ap count_in (same n) ∙ sum ∙ ap (λ (l : List Parcel). count_in (outbox_of old.outboxes n) + length l) (sym nothing);
          there = (o, is);
          none = λ k e. now;
          others = λ m ne. same m;
          rest = still;
        }
    holds o (p ∷ rest) is has h =
        let is_now : outbox_of new.outboxes n ≡ Some (after_take o rest) =
        ap (λ (os : List Outbox). outbox_of os n) h.1 ∙ box_same old.outboxes n o (after_take o rest) is in
        let now : held_in (outbox_of new.outboxes n) ≡ rest = ap held_in is_now in
        let one : option_to_list parcel ≡ p ∷ [] = ap (λ (p : Option Parcel). option_to_list p) (ok_is parcel (Some p) h.0) in record {
          waited = ap held_in is ∙ has ∙ ap (λ (l : List Parcel). p ∷ l) (sym now)
              ∙ ap (λ (l : List Parcel). l ++ held_in (outbox_of new.outboxes n)) (sym one);
          counted = ap count_in is_now ∙ ap (λ (k : ℕ). k + 1) (sym (ap count_in is))
              ∙ ap (λ (l : List Parcel). count_in (outbox_of old.outboxes n) + length l) (sym one);
          there = (o, is);
          none = λ k e. absurd (one_none p (sym one ∙ e));
          others = λ m ne. ap (λ (os : List Outbox). outbox_of os m) h.1 ∙ box_other old.outboxes n m (after_take o rest) ne;
          rest = still;
        }

    by : (b : Option Outbox) → outbox_of old.outboxes n ≡ b → GivesFrom old.outboxes new.outboxes n b (Ok parcel) → FromRoom old new n parcel
    by None is given = absurd (not_ok given.0)
    by (Some o) is given = holds o o.held is refl given

    -- where not all that was told is kept, nothing is given
    back : (b : Option Outbox) → outbox_of old.outboxes n ≡ b → MatchOption b (IsErr {T = Option Parcel} {E = NoMember} (Ok parcel)) (λ (o : Outbox). ◌≡◌ {A = Result (Option Parcel) NoMember} (Ok parcel) (Ok None)) →
        new.outboxes ≡ old.outboxes → is_kept old ≡ false → FromRoom old new n parcel
    back None is m kept unkept = absurd (not_ok m)
    back (Some o) is m kept unkept =
        let same : (m : ℕ) → outbox_of new.outboxes m ≡ outbox_of old.outboxes m = λ m. ap (λ (os : List Outbox). outbox_of os m) kept in
        let nothing : option_to_list parcel ≡ [] = ap (λ (p : Option Parcel). option_to_list p) (ok_is parcel None m) in
        let sum : count_in (outbox_of old.outboxes n) ≡ count_in (outbox_of old.outboxes n) + 0 = omega arith in record {
          waited = sym (ap held_in (same n)) ∙ ap (λ (l : List Parcel). l ++ held_in (outbox_of new.outboxes n)) (sym nothing);
          counted = ap count_in (same n) ∙ sum ∙ ap (λ (l : List Parcel). count_in (outbox_of old.outboxes n) + length l) (sym nothing);
          there = (o, is);
          none = λ k e. absurd (true_false (sym k ∙ unkept));
          others = λ m ne. same m;
          rest = still;
        }

    split : (b : Bool) → is_kept old ≡ b → GivesIf b old.outboxes new.outboxes n (Ok parcel) → FromRoom old new n parcel
    split true is given = by (outbox_of old.outboxes n) refl given
    split false is given = back (outbox_of old.outboxes n) refl given.0 given.1 is

plus_none : (a b : ℕ) → a ≡ b → a ≡ b + 0
plus_none a b e = omega (arith, e)

count-none : (x : Option Connection) (conference n : ℕ) → count_for x 0 conference n ≡ 0
count-none None conference n = refl
count-none (Some x) conference n = by (x.conference == conference) (x.n == n)
  where
    by : (b d : Bool) → ◌≡◌ {A = ℕ} (if b && d then 0 else 0) 0
    by true true = refl
    by true false = refl
    by false d = refl

nothing_off : (connection : ℕ) (old new : Hub) → SameHub old new → ((w : World) → StandsFor old w → StandsFor new w) → TakenOff connection [] old new
nothing_off connection old new same stands = record {
  waited = sym (ap (held_for new) (same.connections connection) ∙ by (connection_at old.connections connection));
  counted = λ conference n.
      plus_none _ _ (ap (λ (r : Option Room). taken_in r n) (same.rooms conference))
      ∙ ap (λ (k : ℕ). taken_in (room_at old conference) n + k) (sym (count-none (connection_at old.connections connection) conference n));
  rooms = λ conference. ap (λ (r : Option Room). option_map bare r) (same.rooms conference);
  connections = same.connections;
  stands = stands;
}
  where
    by : (x : Option Connection) → held_for new x ≡ held_for old x
    by None = refl
    by (Some x) = ap (λ (r : Option Room). held_in (outbox_in r x.n)) (same.rooms x.conference)

err_ok : {T E : Type 0} (v : T) (e : E) → ◌≡◌ {A = Result T E} (Ok v) (Err e) → ⊥
err_ok v e is = cc

ok_same : (p q : Option Parcel) → ◌≡◌ {A = Result (Option Parcel) HubRefusal} (Ok p) (Ok q) → p ≡ q
ok_same p q e = cc

apart : (n m : ℕ) → nat_eq n m ≡ false → n ≢ m
apart n m e = eqb-false n m e

from_hub : (connection : ℕ) (x : Connection) (parcel : Option Parcel) (old new : Hub) → connection_at old.connections connection ≡ Some x → TakenFrom x.conference x.n parcel old new →
    ((w : World) → StandsFor old w → StandsFor new w) → TakenOne connection (option_to_list parcel) old new
from_hub connection x parcel old new is t stands =
    let room = from_room t.before t.after x.n parcel t.gave in
    let then_is : held new connection ≡ held_in (outbox_of t.after.outboxes x.n) =
    ap (held_for new) (t.connections connection ∙ is) ∙ ap (λ (r : Option Room). held_in (outbox_in r x.n)) t.now in
    let was_is : held old connection ≡ held_in (outbox_of t.before.outboxes x.n) =
    ap (held_for old) is ∙ ap (λ (r : Option Room). held_in (outbox_in r x.n)) t.was in record {
      off = record {
        waited = was_is ∙ room.waited ∙ ap (λ (l : List Parcel). option_to_list parcel ++ l) (sym then_is);
        counted = λ conference n. subst (λ (y : Option Connection). taken_in (room_at new conference) n ≡ taken_in (room_at old conference) n + count_for y (length (option_to_list parcel)) conference n) (sym is)
            (counts conference n (nat_eq x.conference conference) refl (nat_eq x.n n) refl);
        rooms = λ conference. rest conference (nat_eq x.conference conference) refl;
        connections = t.connections;
        stands = stands;
      };
      there = subst (HasOutbox old) (sym is) (room.there.0, ap (λ (r : Option Room). outbox_in r x.n) t.was ∙ room.there.1);
      none = λ k e. then_is ∙ room.none (subst IsKeptIn t.was (subst (HandsOut old) is k)) e;
    }
  where
    counts : (conference n : ℕ) (b : Bool) → nat_eq x.conference conference ≡ b → (d : Bool) → nat_eq x.n n ≡ d →
        taken_in (room_at new conference) n ≡ taken_in (room_at old conference) n + (if b && d then length (option_to_list parcel) else 0)
    counts conference n false e d f = plus_none _ _ (ap (λ (r : Option Room). taken_in r n) (t.others conference e))
    counts conference n true e false f =
        let same : x.conference ≡ conference = eqb-true x.conference conference e in
        let room = from_room t.before t.after x.n parcel t.gave in
        plus_none _ _ (ap (λ (r : Option Room). taken_in r n) (ap (room_at new) (sym same) ∙ t.now)
        ∙ ap count_in (room.others n (apart x.n n f))
        ∙ sym (ap (λ (r : Option Room). taken_in r n) (ap (room_at old) (sym same) ∙ t.was)))
    counts conference n true e true f =
        let same : x.conference ≡ conference = eqb-true x.conference conference e in
        let same_n : x.n ≡ n = eqb-true x.n n f in
        let room = from_room t.before t.after x.n parcel t.gave in
        ap (taken_in (room_at new conference)) (sym same_n)
        ∙ ap (λ (r : Option Room). taken_in r x.n) (ap (room_at new) (sym same) ∙ t.now)
        ∙ room.counted
        ∙ ap (λ (k : ℕ). k + length (option_to_list parcel))
        (sym (ap (λ (r : Option Room). taken_in r x.n) (ap (room_at old) (sym same) ∙ t.was)) ∙ ap (taken_in (room_at old conference)) same_n)

    rest : (conference : ℕ) (b : Bool) → nat_eq x.conference conference ≡ b → option_map bare (room_at new conference) ≡ option_map bare (room_at old conference)
    rest conference false e = ap (λ (r : Option Room). option_map bare r) (t.others conference e)
    rest conference true e =
        let same : x.conference ≡ conference = eqb-true x.conference conference e in
        let room = from_room t.before t.after x.n parcel t.gave in
        ap (λ (r : Option Room). option_map bare r) (ap (room_at new) (sym same) ∙ t.now)
        ∙ ap (λ (r : Room). Some r) room.rest
        ∙ sym (ap (λ (r : Option Room). option_map bare r) (ap (room_at old) (sym same) ∙ t.was))

-- what a taking gave
pub taken_one : (connection : ℕ) (parcel : Option Parcel) (old new : Hub) → TakenOf (connection_at old.connections connection) (Ok parcel) old new →
    ((w : World) → StandsFor old w → StandsFor new w) → TakenOne connection (option_to_list parcel) old new
taken_one connection parcel old new t stands = by (connection_at old.connections connection) refl t
  where
    by : (x : Option Connection) → connection_at old.connections connection ≡ x → TakenOf x (Ok parcel) old new → TakenOne connection (option_to_list parcel) old new
    by None is t = absurd (err_ok parcel _ t.0)
    by (Some x) is t =
        subst (λ (p : Option Parcel). TakenOne connection (option_to_list p) old new) (sym (ok_same parcel t.0 t.1)) (from_hub connection x t.0 old new is t.2 stands)

-- where no live connection has the number
pub taken_none : (connection : ℕ) (refusal : HubRefusal) (old new : Hub) → TakenOf (connection_at old.connections connection) (Err refusal) old new →
    ((w : World) → StandsFor old w → StandsFor new w) → TakenOne connection [] old new
taken_none connection refusal old new t stands = by (connection_at old.connections connection) refl t
  where
    by : (x : Option Connection) → connection_at old.connections connection ≡ x → TakenOf x (Err refusal) old new → TakenOne connection [] old new
    by None is t = record {
      off = nothing_off connection old new t.1 stands;
      there = subst (HasOutbox old) (sym is) tt;
      none = λ k e. ap (held_for new) (t.1.connections connection ∙ is);
    }
    by (Some x) is t = absurd (err_ok t.0 refusal (sym t.1))

-- nothing was taken yet
pub off_none : (connection : ℕ) (hub : Hub) → TakenOff connection [] hub hub
off_none connection hub = nothing_off connection hub hub (record { rooms = λ c. refl; connections = λ n. refl; arrivals = refl }) (λ w s. s)

count-more : (x : Option Connection) (i j conference n : ℕ) → count_for x i conference n + count_for x j conference n ≡ count_for x (i + j) conference n
count-more None i j conference n = refl
count-more (Some x) i j conference n = by (x.conference == conference) (x.n == n)
  where
    by : (b d : Bool) → ◌≡◌ {A = ℕ} ((if b && d then i else 0) + (if b && d then j else 0)) (if b && d then i + j else 0)
    by true true = refl
    by true false = refl
    by false d = refl

sums : (a b c x y z : ℕ) → c ≡ b + y → b ≡ a + x → x + y ≡ z → c ≡ a + z
sums a b c x y z p q r = omega (arith, p, q, r)

-- parcels behind parcels
pub off_more : (connection : ℕ) (some more : List Parcel) (a b c : Hub) → TakenOff connection some a b → TakenOff connection more b c → TakenOff connection (some ++ more) a c
off_more connection some more a b c p q = record {
  waited = p.waited ∙ ap (λ (l : List Parcel). some ++ l) q.waited ∙ sym (append_assoc some more (held c connection));
  counted = λ conference n. sums _ _ _ _ _ _ (q.counted conference n) (p.counted conference n)
      (ap (λ (x : Option Connection). count_for (connection_at a.connections connection) (length some) conference n + count_for x (length more) conference n) (p.connections connection)
      ∙ count-more (connection_at a.connections connection) (length some) (length more) conference n
      ∙ ap (λ (k : ℕ). count_for (connection_at a.connections connection) k conference n) (sym (length-append some more)));
  rooms = λ conference. q.rooms conference ∙ p.rooms conference;
  connections = λ number. q.connections number ∙ p.connections number;
  stands = λ w s. q.stands w (p.stands w s);
}
