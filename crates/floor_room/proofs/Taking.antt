-- A parcel is taken.
use Rattle.std.proofs.Common.{◌≡◌, ℕ, zero, suc, ◌+◌, ◌*◌, ◌<◌, ◌≤◌, inl, inr, Bool, true, false, nat_le, List, [], ◌∷◌, ◌++◌, length, take, get_or, Option, Some, None, refl, sym, ap, subst, ◌∙◌, arith, append_assoc, length-append}
use Rattle.std.proofs.lemmas.Bool.Decides.{leb_tells}
use Rattle.std.specs.Prelude.{Result, Ok, Err, slice_get, slice_set}
use Rattle.floor_config.specs.Configuration.{Configuration}
use Rattle.floor_machine.specs.declared.event.Event.{Event}
use Rattle.floor_machine.specs.Parcel.{Parcel}
use Rattle.floor_machine.specs.Conference.{opening}
use Rattle.floor_machine.proofs.Runs.{members-after}
use Rattle.floor_room.specs.declared.outbox.NoMember.{NoMember}
use Rattle.floor_room.specs.steps.Kept.{AreCounted, Keeps}
use Rattle.floor_room.specs.Outbox.{Outbox, GaveHeld}
use Rattle.floor_room.specs.Room.{Room, IsSent, AreSent, AreHanded, parcels_to}
use Rattle.floor_room.proofs.Adding.{counted-fewer}
use Rattle.floor_room.specs.Taking.{Gives, GivesFrom, GivesHeld, after_take}

get_at : (os : List Outbox) (i : ℕ) (o : Outbox) → i < length os → o ≡ get_or os i o → slice_get os i ≡ Some o
get_at [] i o h e = absurd (omega arith)
get_at (x ∷ os) zero o h e = ap Some (sym e)
get_at (x ∷ os) (suc i) o h e = get_at os i o (omega arith) e

get_past : (os : List Outbox) (i : ℕ) → length os ≤ i → slice_get os i ≡ None
get_past [] i h = refl
get_past (x ∷ os) zero h = absurd (omega arith)
get_past (x ∷ os) (suc i) h = get_past os i (omega arith)

set_same : (os : List Outbox) (i : ℕ) (o : Outbox) → o ≡ get_or os i o → slice_set os i o ≡ os
set_same [] i o e = refl
set_same (x ∷ os) zero o e = ap (λ (y : Outbox). y ∷ os) e
set_same (x ∷ os) (suc i) o e = ap (λ (ys : List Outbox). x ∷ ys) (set_same os i o e)

-- what an outbox gave is what the outboxes gave
pub given-some : (os : List Outbox) (i n : ℕ) (o new : Outbox) (result : Option Parcel) → n ≡ suc i → i < length os → o ≡ get_or os i o → GaveHeld o new o.held result →
    Gives os (slice_set os i new) n (Ok result)
given-some os i n o new result number within is gave =
    subst (λ (k : ℕ). Gives os (slice_set os i new) k (Ok result)) (sym number)
    (subst (λ (x : Option Outbox). GivesFrom os (slice_set os i new) (suc i) x (Ok result)) (sym (get_at os i o within is)) (by o.held gave))
  where
    by : (held : List Parcel) → GaveHeld o new held result → GivesHeld os (slice_set os i new) (suc i) o held (Ok result)
    by [] h = (ap (λ (x : Option Parcel). Ok x) h.0, ap (slice_set os i) h.1 ∙ set_same os i o is)
    by (p ∷ rest) h = (ap (λ (x : Option Parcel). Ok x) h.0, ap (slice_set os i) h.1)

pub given-none : (os : List Outbox) (i n : ℕ) (refusal : NoMember) → n ≡ suc i → length os ≤ i → Gives os os n (Err refusal)
given-none os i n refusal number past =
    subst (λ (k : ℕ). Gives os os k (Err refusal)) (sym number)
    (subst (λ (x : Option Outbox). GivesFrom os os (suc i) x (Err refusal)) (sym (get_past os i past)) (refl, refl))

-- the counts fit
counted_at : (k : ℕ) (os : List Outbox) (i : ℕ) (o : Outbox) → AreCounted k os → i < length os → o ≡ get_or os i o → o.taken + length o.held ≤ 18446744073709551616 * k
counted_at k [] i o h l e = absurd (omega arith)
counted_at k (x ∷ os) zero o h l e = subst (λ (y : Outbox). y.taken + length y.held ≤ 18446744073709551616 * k) (sym e) h.0
counted_at k (x ∷ os) (suc i) o h l e = counted_at k os i o h.1 (omega arith) e

pub counted_few : (os : List Outbox) (i : ℕ) (o : Outbox) → AreCounted 2000000 os → i < length os → o ≡ get_or os i o → o.taken + length o.held < 340282366920938463463374607431768211456
counted_few os i o h l e = omega (arith, counted_at 2000000 os i o h l e)

pub counted-more : (j k : ℕ) (os : List Outbox) → j ≤ k → AreCounted j os → AreCounted k os
counted-more j k [] l h = tt
counted-more j k (o ∷ os) l h = (omega (arith, h.0), counted-more j k os l h.1)

sent-taken : (all : List Parcel) (b : Bool) (o : Outbox) (p : Parcel) (rest : List Parcel) → o.held ≡ p ∷ rest → IsSent all o b → IsSent all (after_take o rest) b
sent-taken all b o p rest e h =
    record {
      taken = h.taken ++ p ∷ [];
      count = length-append h.taken (p ∷ []) ∙ ap (λ (k : ℕ). k + 1) h.count;
      rest = h.rest;
      sent =
          h.sent
          ∙ ap (λ (held : List Parcel). h.taken ++ held ++ h.rest) e
          ∙ ap (λ (ps : List Parcel). ps ++ h.rest) (sym (append_assoc h.taken (p ∷ []) rest));
      whole = h.whole;
    }

are_sent-taken : (config : Configuration) (es : List Event) (b : Bool) (n i : ℕ) (os : List Outbox) (o : Outbox) (p : Parcel) (rest : List Parcel) → slice_get os i ≡ Some o → o.held ≡ p ∷ rest →
    AreSent config es b n os → AreSent config es b n (slice_set os i (after_take o rest))
are_sent-taken config es b n i [] o p rest is e h = tt
are_sent-taken config es b n zero (x ∷ os) o p rest is e h =
    let same : x ≡ o = cc in
    (sent-taken (parcels_to config es n) b o p rest e (subst (λ (y : Outbox). IsSent (parcels_to config es n) y b) same h.0), h.1)
are_sent-taken config es b n (suc i) (x ∷ os) o p rest is e h = (h.0, are_sent-taken config es b (n + 1) i os o p rest is e h.1)

counted-taken : (k i : ℕ) (os : List Outbox) (o : Outbox) (p : Parcel) (rest : List Parcel) → slice_get os i ≡ Some o → o.held ≡ p ∷ rest → AreCounted k os → AreCounted k (slice_set os i (after_take o rest))
counted-taken k i [] o p rest is e h = tt
counted-taken k zero (x ∷ os) o p rest is e h =
    let same : x ≡ o = cc in
    let fits : o.taken + length o.held ≤ 18446744073709551616 * k = subst (λ (y : Outbox). y.taken + length y.held ≤ 18446744073709551616 * k) same h.0 in
    (omega (arith, fits, ap length e), h.1)
counted-taken k (suc i) (x ∷ os) o p rest is e h = (h.0, counted-taken k i os o p rest is e h.1)

length-set_at : (os : List Outbox) (i : ℕ) (o : Outbox) → length (slice_set os i o) ≡ length os
length-set_at [] i o = refl
length-set_at (x ∷ os) zero o = refl
length-set_at (x ∷ os) (suc i) o = ap (λ (k : ℕ). suc k) (length-set_at os i o)

-- one more parcel was taken of what the kept events call for
taken-within : (r : Room) (n : ℕ) (o : Outbox) (p : Parcel) (rest : List Parcel) → o.held ≡ p ∷ rest → r.told ≤ r.kept
    → parcels_to r.ledger.config r.ledger.journal n ≡ parcels_to r.ledger.config (take r.told r.ledger.journal) n
    → IsSent (parcels_to r.ledger.config r.ledger.journal n) o r.ledger.is_broken → o.taken + 1 ≤ length (parcels_to r.ledger.config (take r.kept r.ledger.journal) n)
taken-within r n o p rest e kept quiet s =
    let more = counted-fewer r.ledger.config r.ledger.journal r.told r.kept n kept in
    let all = ap length s.sent in
    let some = ap length e in
    let same = ap length quiet in
    let count = s.count in
    omega (arith, more, all, some, same, count, length-append (s.taken ++ o.held) s.rest, length-append s.taken o.held)

are_handed-taken : (r : Room) (i : ℕ) (o : Outbox) (p : Parcel) (rest : List Parcel) → o.held ≡ p ∷ rest → r.told ≤ r.kept
    → ((n : ℕ) → parcels_to r.ledger.config r.ledger.journal n ≡ parcels_to r.ledger.config (take r.told r.ledger.journal) n) → (n : ℕ) (os : List Outbox) → slice_get os i ≡ Some o
    → AreSent r.ledger.config r.ledger.journal r.ledger.is_broken n os → AreHanded r.ledger.config (take r.kept r.ledger.journal) n os
    → AreHanded r.ledger.config (take r.kept r.ledger.journal) n (slice_set os i (after_take o rest))
are_handed-taken r i o p rest e kept quiet n [] is s h = tt
are_handed-taken r zero o p rest e kept quiet n (x ∷ os) is s h =
    let same : x ≡ o = cc in
    (taken-within r n o p rest e kept (quiet n) (subst (λ (y : Outbox). IsSent (parcels_to r.ledger.config r.ledger.journal n) y r.ledger.is_broken) same s.0), h.1)
are_handed-taken r (suc i) o p rest e kept quiet n (x ∷ os) is s h = (h.0, are_handed-taken r i o p rest e kept quiet (n + 1) os is s.1 h.1)

keeps-same : (r : Room) (new : List Outbox) (room_for : ℕ) → Keeps r room_for → new ≡ r.outboxes → Keeps (record r { outboxes = new }) room_for
keeps-same r new room_for k e = subst (λ (os : List Outbox). Keeps (record r { outboxes = os }) room_for) (sym e) k

keeps-held : (r : Room) (new : List Outbox) (room_for i : ℕ) (o : Outbox) (held : List Parcel) (result : Result (Option Parcel) NoMember) → Keeps r room_for → r.told ≤ r.kept → slice_get r.outboxes i ≡ Some o → o.held ≡ held →
    GivesHeld r.outboxes new (suc i) o held result → Keeps (record r { outboxes = new }) room_for
keeps-held r new room_for i o [] result k kept is e g = keeps-same r new room_for k g.1
keeps-held r new room_for i o (p ∷ rest) result k kept is e g =
    let same_length : length (slice_set r.outboxes i (after_take o rest)) ≡ length r.outboxes = length-set_at r.outboxes i (after_take o rest) in
    subst (λ (os : List Outbox). Keeps (record r { outboxes = os }) room_for) (sym g.1)
    (record {
      room = record {
        journal = k.room.journal;
        members = same_length ∙ k.room.members;
        sent = are_sent-taken r.ledger.config r.ledger.journal r.ledger.is_broken 1 i r.outboxes o p rest is e k.room.sent;
        within = k.room.within;
        quiet = k.room.quiet;
        handed = are_handed-taken r i o p rest e kept k.room.quiet 1 r.outboxes is k.room.sent k.room.handed;
      };
      counted = counted-taken (length r.ledger.journal) i r.outboxes o p rest is e k.counted;
      spare = λ h. subst (λ (x : ℕ). x < room_for) (sym same_length) (k.spare h);
    })

-- what a room keeps after a parcel was taken
pub keeps-given : (r : Room) (new : List Outbox) (room_for n : ℕ) (result : Result (Option Parcel) NoMember) → Keeps r room_for → r.told ≤ r.kept → Gives r.outboxes new n result → Keeps (record r { outboxes = new }) room_for
keeps-given r new room_for zero result k kept g = keeps-same r new room_for k g.1
keeps-given r new room_for (suc i) result k kept g = by (slice_get r.outboxes i) refl g
  where
    by : (x : Option Outbox) → slice_get r.outboxes i ≡ x → GivesFrom r.outboxes new (suc i) x result → Keeps (record r { outboxes = new }) room_for
    by None is h = keeps-same r new room_for k h.1
    by (Some o) is h = keeps-held r new room_for i o o.held result k kept is refl h

-- the members are at most as many as the events
pub outboxes-few : (r : Room) (room_for : ℕ) → Keeps r room_for → length r.outboxes ≤ 2000000
outboxes-few r room_for k = omega (arith, k.room.members, members-after (opening r.ledger.config) r.ledger.journal, k.room.journal.count)

-- all that was told is kept
pub le-of : (a b : ℕ) → nat_le a b ≡ true → a ≤ b
le-of a b h = elim (leb_tells a b) [ inl w ↦ w.1 | inr w ↦ absurd (no-truth (sym h ∙ w.0)) ]
  where
    no-truth : true ≡ false → ⊥
    no-truth e = cc
