-- Parcels that are taken one after another.
use Rattle.std.proofs.Common.{◌≡◌, ◌<◌, ◌+◌, ◌++◌, ℕ, zero, suc, List, [], ◌∷◌, length, take, Option, Some, None, Result, Ok, Err, refl, sym, ap, subst, ◌∙◌, append_assoc, append-nil, length-append, arith, inl, inr, true≢false, take_at, suc-ne-zero, ◌≢◌}
use Rattle.std.specs.Prelude.{slice_get}
use Rattle.std.specs.Option.{option_map_or}
use Rattle.std.proofs.lemmas.Option.{none-some}
use Rattle.std.specs.Prelude.{Bool, true, false, IsErr, MatchOption, if◌then◌else◌}
use Rattle.floor_machine.specs.Parcel.{Parcel}
use Rattle.floor_room.specs.Outbox.{Outbox}
use Rattle.floor_room.specs.Replay.{bytes_of}
use Rattle.floor_room.specs.Room.{Room, is_kept}
use Rattle.floor_room.specs.Taking.{GivesFrom, GivesHeld, GivesIf, outbox_of}
use Rattle.floor_room.specs.declared.outbox.NoMember.{NoMember}
use Rattle.floor_hub.specs.Connections.{connection_at}
use Rattle.floor_hub.specs.Hub.{Hub, room_at}
use Rattle.floor_hub.specs.Rooms.{TakenFrom, TakenOf, first_at, first_in}
use Rattle.floor_hub.specs.declared.connection.Connection.{Connection}
use Rattle.floor_hub.specs.declared.refusal.HubRefusal.{HubRefusal}
use Rattle.floor_ffi.specs.Called.{Taking}
use Rattle.floor_ffi.specs.Gives.{TakeGives, TakesEach, WaitsLonger}
use Rattle.floor_ffi.specs.steps.Taken.{IsEnd, IsFirst, PutsOne, TakesOne, TakesSome}
use Rattle.floor_ffi.specs.declared.taking.Next.{Next}
use Rattle.floor_ffi.specs.declared.taking.Next.TheVariants as next
use Rattle.floor_ffi.specs.declared.outcome.Outcome.TheVariants as outcome
use Rattle.floor_hub.specs.declared.refusal.HubRefusal.TheVariants as hub
use Rattle.floor_ffi.proofs.Putting.{put-behind}

abbrev value_in : {E : Type 0} → Result (Option Parcel) E → Option Parcel
value_in (Ok p) = p
value_in (Err _) = None

-- what an outbox gives is what waited first
held-first : (old new : List Outbox) (n : ℕ) (o : Outbox) (held : List Parcel) (parcel : Option Parcel) → GivesHeld old new n o held (Ok parcel) → parcel ≡ slice_get held 0
held-first old new n o [] parcel gave = ap value_in gave.0
held-first old new n o (p ∷ rest) parcel gave = ap value_in gave.0

from-first : (old new : List Outbox) (n : ℕ) (o : Option Outbox) (parcel : Option Parcel) → GivesFrom old new n o (Ok parcel) → parcel ≡ slice_get (option_map_or (λ x. x.held) o []) 0
from-first old new n None parcel gave = absurd (true≢false (sym gave.0))
from-first old new n (Some o) parcel gave = held-first old new n o o.held parcel gave

-- where not all that was told is kept, nothing is handed out
held-back : (o : Option Outbox) (parcel : Option Parcel) → MatchOption o (IsErr {T = Option Parcel} {E = NoMember} (Ok parcel)) (λ (x : Outbox). ◌≡◌ {A = Result (Option Parcel) NoMember} (Ok parcel) (Ok None)) → parcel ≡ None
held-back None parcel gave = absurd (true≢false (sym gave))
held-back (Some o) parcel gave = ap value_in gave

handed-first : (r : Room) (new : List Outbox) (n : ℕ) (parcel : Option Parcel) (b : Bool) → GivesIf b r.outboxes new n (Ok parcel) → parcel ≡ slice_get (if b then option_map_or (λ x. x.held) (outbox_of r.outboxes n) [] else []) 0
handed-first r new n parcel true gave = from-first r.outboxes new n (outbox_of r.outboxes n) parcel gave
handed-first r new n parcel false gave = held-back (outbox_of r.outboxes n) parcel gave.0

taken-first : (h new : Hub) (c n : ℕ) (parcel : Option Parcel) → TakenFrom c n parcel h new → parcel ≡ first_in (room_at h c) n
taken-first h new c n parcel taken =
    handed-first taken.before taken.after.outboxes n parcel (is_kept taken.before) taken.gave.given
    ∙ ap (λ (r : Option Room). first_in r n) (sym taken.was)

of-first : (h new : Hub) (x : Option Connection) (p : Parcel) (r : Result (Option Parcel) HubRefusal) → first_at h x ≡ Some p → TakenOf x r h new → r ≡ Ok (Some p)
of-first h new None p r first taken = absurd (none-some p first)
of-first h new (Some x) p r first taken = taken.1 ∙ ap (λ (z : Option Parcel). Ok z) (taken-first h new x.conference x.n taken.0 taken.2 ∙ first)

-- what waits first is what is taken
pub taking-first : (h new : Hub) (connection : ℕ) (p : Parcel) (r : Result (Option Parcel) HubRefusal) → IsFirst h connection p → Taking connection h new r → Taking connection h new (Ok (Some p))
taking-first h new connection p r first taking = subst (Taking connection h new) (of-first h new (connection_at h.connections connection) p r first taking.given) taking

pub takes-none : (h : Hub) (connection size : ℕ) (room : List ℕ) → TakesSome h connection h 0 0 size room
takes-none h connection size room = record { taken = []; count = refl; takes = refl; measured = refl; within = omega arith; bytes = refl }

takes-each-more : (connection : ℕ) (ps : List Parcel) (p : Parcel) (old mid new : Hub) → TakesEach connection ps old mid → Taking connection mid new (Ok (Some p)) → TakesEach connection (ps ++ p ∷ []) old new
takes-each-more connection [] p old mid new before taking = (new, subst (λ (h : Hub). Taking connection h new (Ok (Some p))) before taking, refl)
takes-each-more connection (q ∷ ps) p old mid new before taking = (before.0, before.1, takes-each-more connection ps p before.0 mid new before.2 taking)

pub bytes_of-more : (ps : List Parcel) (p : Parcel) → bytes_of (ps ++ p ∷ []) ≡ bytes_of ps ++ p.bytes
bytes_of-more [] p = append-nil p.bytes
bytes_of-more (q ∷ ps) p = ap (λ (bs : List ℕ). q.bytes ++ bs) (bytes_of-more ps p) ∙ sym (append_assoc q.bytes (bytes_of ps) p.bytes)

-- one more parcel was taken, and lies behind the others
pub takes-more : (old mid new : Hub) (connection parcels len size more : ℕ) (room front rest after : List ℕ) → TakesSome old connection mid parcels len size room →
    length front ≡ len → front ≡ take len room → length rest + len ≡ size → TakesOne mid connection new (length rest) after (next.Taken more) →
    TakesSome old connection new (parcels + 1) (len + more) size (front ++ after)
takes-more old mid new connection parcels len size more room front rest after some is-len is-front is-size one = record {
  taken = some.taken ++ one.0 ∷ [];
  count = omega (arith, some.count, length-append some.taken (one.0 ∷ []));
  takes = takes-each-more connection some.taken one.0 old mid new some.takes one.1;
  measured = omega (arith, some.measured, one.2, ap length (bytes_of-more some.taken one.0), length-append (bytes_of some.taken) one.0.bytes);
  within = omega (arith, one.3, is-size);
  bytes = put-behind front after (bytes_of some.taken) one.0.bytes len more is-len (is-front ∙ some.bytes) one.4 ∙ sym (bytes_of-more some.taken one.0);
}

empty : (ps : List Parcel) → 0 ≡ length ps → ps ≡ []
empty [] none = refl
empty (p ∷ ps) none = absurd (suc-ne-zero (length ps) (sym none))

longer-waits : (o : Option Parcel) (p : Parcel) (left : ℕ) → o ≡ Some p → left < length p.bytes → MatchOption o (Unit {0}) (λ q. left < length q.bytes)
longer-waits o p left is longer = subst (λ (z : Option Parcel). MatchOption z (Unit {0}) (λ q. left < length q.bytes)) (sym is) longer

none-waits : (o : Option Parcel) (left : ℕ) → o ≡ None → MatchOption o (Unit {0}) (λ q. left < length q.bytes)
none-waits o left is = subst (λ (z : Option Parcel). MatchOption z (Unit {0}) (λ q. left < length q.bytes)) (sym is) tt

-- behind what taking one has come to, when it took none, what waits is longer than the rest of the room
waits : (h : Hub) (connection left : ℕ) (room : List ℕ) (n : Next) → ((more : ℕ) → n ≢ next.Taken more) → PutsOne h connection left room n → WaitsLonger h connection left
waits h connection left room (next.Taken more) ne puts = absurd (ne more refl)
waits h connection left room (next.Longer first) ne puts = longer-waits (first_at h (connection_at h.connections connection)) puts.0 left puts.1 (omega (arith, puts.2, puts.3))
waits h connection left room next.Nothing ne puts = none-waits (first_at h (connection_at h.connections connection)) left puts.1
waits h connection left room next.NoConnection ne puts = none-waits (first_at h (connection_at h.connections connection)) left (ap (first_at h) puts)

-- what TakesOne says where none was taken
pub puts-of : (old new : Hub) (connection size : ℕ) (room : List ℕ) (n : Next) → ((more : ℕ) → n ≢ next.Taken more) → TakesOne old connection new size room n → (new ≡ old) × PutsOne old connection size room n
puts-of old new connection size room (next.Taken more) ne takes = absurd (ne more refl)
puts-of old new connection size room (next.Longer first) ne takes = takes
puts-of old new connection size room next.Nothing ne takes = takes
puts-of old new connection size room next.NoConnection ne takes = takes

behind-some : (old h : Hub) (connection k len size left number parcels told : ℕ) (room front after : List ℕ) (n : Next) → TakesSome old connection h (suc k) len size room →
    length front ≡ len → front ≡ take len room → left + len ≡ size → ((more : ℕ) → n ≢ next.Taken more) → PutsOne h connection left after n →
    IsEnd n (suc k) len number parcels told → TakeGives old connection h number parcels told size (front ++ after)
behind-some old h connection k len size left number parcels told room front after n some is-len is-front is-size ne puts end = record {
  outcome = outcome.Done;
  told = end.0;
  taken = some.taken;
  count = end.1 ∙ some.count;
  takes = some.takes;
  ends = (
    omega (arith, some.count),
    end.2 ∙ some.measured,
    omega (arith, end.2, some.within),
    ap (λ (i : ℕ). take i (front ++ after)) end.2 ∙ take_at front after len is-len ∙ is-front ∙ some.bytes,
    inr (subst (WaitsLonger h connection) (omega (arith, end.2, is-size)) (waits h connection left after n ne puts)),
  );
}

behind-none : (old h : Hub) (connection len size left number parcels told : ℕ) (room front after : List ℕ) (n : Next) → TakesSome old connection h 0 len size room →
    length front ≡ len → left + len ≡ size → ((more : ℕ) → n ≢ next.Taken more) → PutsOne h connection left after n →
    IsEnd n 0 len number parcels told → TakeGives old connection h number parcels told size (front ++ after)
behind-none old h connection len size left number parcels told room front after (next.Taken more) some is-len is-size ne puts end = absurd (ne more refl)
behind-none old h connection len size left number parcels told room front after (next.Longer first) some is-len is-size ne puts end =
    let none : some.taken ≡ [] = empty some.taken some.count in
    let zero-len : len ≡ 0 = some.measured ∙ ap (λ (ps : List Parcel). length (bytes_of ps)) none in record {
      outcome = outcome.TooShort;
      told = end.0;
      taken = some.taken;
      count = end.1 ∙ some.count;
      takes = some.takes;
      ends = (none, (puts.0, puts.1, end.2 ∙ puts.2, omega (arith, end.2, puts.3, is-size, zero-len)));
    }
behind-none old h connection len size left number parcels told room front after next.Nothing some is-len is-size ne puts end = record {
  outcome = outcome.Nothing;
  told = end.0;
  taken = some.taken;
  count = end.1 ∙ some.count;
  takes = some.takes;
  ends = (empty some.taken some.count, puts);
}
behind-none old h connection len size left number parcels told room front after next.NoConnection some is-len is-size ne puts end = record {
  outcome = outcome.Refused hub.NoConnection;
  told = end.0;
  taken = some.taken;
  count = end.1 ∙ some.count;
  takes = some.takes;
  ends = (empty some.taken some.count, puts);
}

behind : (old h : Hub) (connection k len size left number parcels told : ℕ) (room front after : List ℕ) (n : Next) → TakesSome old connection h k len size room →
    length front ≡ len → front ≡ take len room → left + len ≡ size → ((more : ℕ) → n ≢ next.Taken more) → PutsOne h connection left after n →
    IsEnd n k len number parcels told → TakeGives old connection h number parcels told size (front ++ after)
behind old h connection zero len size left number parcels told room front after n some is-len is-front is-size ne puts end = behind-none old h connection len size left number parcels told room front after n some is-len is-size ne puts end
behind old h connection (suc k) len size left number parcels told room front after n some is-len is-front is-size ne puts end = behind-some old h connection k len size left number parcels told room front after n some is-len is-front is-size ne puts end

-- taking ends where none is taken
pub takes-ended : (old mid new : Hub) (connection k len size number parcels told : ℕ) (room front rest after : List ℕ) (n : Next) → TakesSome old connection mid k len size room →
    length front ≡ len → front ≡ take len room → length rest + len ≡ size → ((more : ℕ) → n ≢ next.Taken more) → TakesOne mid connection new (length rest) after n →
    IsEnd n k len number parcels told → TakeGives old connection new number parcels told size (front ++ after)
takes-ended old mid new connection k len size number parcels told room front rest after n some is-len is-front is-size ne takes end =
    let one = puts-of mid new connection (length rest) after n ne takes in
    subst (λ (h : Hub). TakeGives old connection h number parcels told size (front ++ after)) (sym one.0)
    (behind old mid connection k len size (length rest) number parcels told room front after n some is-len is-front is-size ne one.1 end)

-- so many parcels are the most
pub takes-most : (old new : Hub) (connection k len size number : ℕ) (room : List ℕ) → TakesSome old connection new k len size room → k ≡ 4294967295 → number ≡ 0 →
    TakeGives old connection new number 4294967295 len size room
takes-most old new connection k len size number room some most done = record {
  outcome = outcome.Done;
  told = done;
  taken = some.taken;
  count = sym most ∙ some.count;
  takes = some.takes;
  ends = (omega (arith, some.count, most), some.measured, some.within, some.bytes, inl (sym some.count ∙ most));
}
