-- What waits for a member from whom nothing was taken is all that the journal calls for at it.
use Rattle.std.proofs.Common.{◌≡◌, ℕ, zero, suc, ◌+◌, ◌<◌, ◌≤◌, Bool, false, List, [], ◌∷◌, ◌++◌, length, get_or, take, map, refl, sym, ◌∙◌, ap, subst, arith, append_assoc, append-nil, Some, None}
use Rattle.std.specs.Prelude.{Option, Result, Ok, Err, IfOk, slice_get}
use Rattle.std.specs.declared.alloc.AllocError.{AllocError}
use Rattle.std.proofs.lemmas.List.{take_more}
use Rattle.std.specs.List.{concat}
use Rattle.std.specs.Option.{option_map}
use Rattle.std.proofs.lemmas.Option.{none-some}
use Rattle.floor_config.specs.Configuration.{Configuration}
use Rattle.floor_machine.specs.declared.event.Event.{Event}
use Rattle.floor_machine.specs.Parcel.{Parcel}
use Rattle.floor_machine.specs.Conference.{opening}
use Rattle.floor_machine.specs.Journal.{Q, parcel, told_from}
use Rattle.floor_machine.specs.Outgoing.{Outgoing, outgoing_bytes}
use Rattle.floor_room.specs.Outbox.{Outbox}
use Rattle.floor_room.specs.Replay.{bytes_of}
use Rattle.floor_room.specs.Room.{AreSent, IsRoom, IsSent, Room, parcels_to}
use Rattle.floor_room.specs.Taking.{held_of, outbox_of}
use Rattle.floor_hub.specs.steps.Running.{AreUntaken, QueuedIn}

-- each outbox has what the journal calls for at its member
sent_at : (config : Configuration) (es : List Event) (b : Bool) (k : ℕ) (os : List Outbox) (j : ℕ) (o : Outbox) → AreSent config es b k os → slice_get os j ≡ Some o →
    IsSent (parcels_to config es (k + j)) o b
sent_at config es b k [] j o h is = absurd (none-some o is)
sent_at config es b k (x ∷ os) zero o h is =
    let here : k ≡ k + 0 = omega arith in
    subst (λ (m : ℕ). IsSent (parcels_to config es m) o b) here (subst (λ (y : Outbox). IsSent (parcels_to config es k) y b) (same x o is) h.0)
  where
    same : (x y : Outbox) → ◌≡◌ {A = Option Outbox} (Some x) (Some y) → x ≡ y
    same x y e = cc
sent_at config es b k (x ∷ os) (suc j) o h is =
    let next : (k + 1) + j ≡ k + suc j = omega arith in
    subst (λ (m : ℕ). IsSent (parcels_to config es m) o b) next (sent_at config es b (k + 1) os j o h.1 is)

empty : (ps : List Parcel) → length ps ≡ 0 → ps ≡ []
empty [] h = refl
empty (p ∷ ps) h = absurd (omega (arith, h))

held_is : (all : List Parcel) (o : Outbox) (b : Bool) → b ≡ false → o.taken ≡ 0 → IsSent all o b → o.held ≡ all
held_is all o b unbroken untaken h =
    sym (h.sent
    ∙ ap (λ (ps : List Parcel). (ps ++ o.held) ++ h.rest) (empty h.taken (h.count ∙ untaken))
    ∙ ap (λ (ps : List Parcel). o.held ++ ps) (h.whole unbroken)
    ∙ append-nil o.held)

parcels_bytes : (n : ℕ) (ms : List Outgoing) → bytes_of (map (parcel n) ms) ≡ concat (map outgoing_bytes ms)
parcels_bytes n [] = refl
parcels_bytes n (m ∷ ms) = ap (λ (bs : List ℕ). outgoing_bytes m ++ bs) (parcels_bytes n ms)

-- what waits is all that is called for
pub gathered : (r : Room) (n : ℕ) (o : Outbox) → IsRoom r → outbox_of r.outboxes n ≡ Some o → o.taken ≡ 0 → r.ledger.is_broken ≡ false →
    bytes_of o.held ≡ Q r.ledger.config r.ledger.journal n
gathered r zero o k is untaken unbroken = absurd (none-some o is)
gathered r (suc j) o k is untaken unbroken =
    let sent : IsSent (parcels_to r.ledger.config r.ledger.journal (1 + j)) o r.ledger.is_broken = sent_at r.ledger.config r.ledger.journal r.ledger.is_broken 1 r.outboxes j o k.sent is in
    let number : 1 + j ≡ suc j = omega arith in
    ap bytes_of (held_is (parcels_to r.ledger.config r.ledger.journal (1 + j)) o r.ledger.is_broken unbroken untaken sent)
    ∙ ap (λ (m : ℕ). bytes_of (parcels_to r.ledger.config r.ledger.journal m)) number
    ∙ parcels_bytes (suc j) (told_from (opening r.ledger.config) r.ledger.journal (suc j))

-- what a room says waits is what waits
pub held_there : (r : Room) (n : ℕ) (items : List Parcel) (o : Outbox) → Some items ≡ held_of r.outboxes n → outbox_of r.outboxes n ≡ Some o → items ≡ o.held
held_there r n items o h is = same items o.held (h ∙ ap (option_map (λ x. x.held)) is)
  where
    same : (x y : List Parcel) → ◌≡◌ {A = Option (List Parcel)} (Some x) (Some y) → x ≡ y
    same x y e = cc

pub nobody_there : (r : Room) (n : ℕ) (o : Outbox) → None ≡ held_of r.outboxes n → outbox_of r.outboxes n ≡ Some o → ⊥
nobody_there r n o h is = none-some o.held (h ∙ ap (option_map (λ x. x.held)) is)

bytes-append : (ps qs : List Parcel) → bytes_of (ps ++ qs) ≡ bytes_of ps ++ bytes_of qs
bytes-append [] qs = refl
bytes-append (p ∷ ps) qs = ap (λ (bs : List ℕ). p.bytes ++ bs) (bytes-append ps qs) ∙ sym (append_assoc p.bytes (bytes_of ps) (bytes_of qs))

bytes-more : (ps : List Parcel) (p : Parcel) → bytes_of (ps ++ p ∷ []) ≡ bytes_of ps ++ p.bytes
bytes-more ps p = bytes-append ps (p ∷ []) ∙ ap (λ (bs : List ℕ). bytes_of ps ++ bs) (append-nil p.bytes)

pub put_more : (out : List Parcel) (i : ℕ) (p : Parcel) (first bytes new : List ℕ) → i < length out → p ≡ get_or out i p → bytes ≡ first ++ bytes_of (take i out) → new ≡ bytes ++ p.bytes →
    new ≡ first ++ bytes_of (take (i + 1) out)
put_more out i p first bytes new within item before is =
    is
    ∙ ap (λ (bs : List ℕ). bs ++ p.bytes) before
    ∙ append_assoc first (bytes_of (take i out)) p.bytes
    ∙ ap (λ (bs : List ℕ). first ++ bs) (sym (bytes-more (take i out) p))
    ∙ ap (λ (ps : List Parcel). first ++ bytes_of ps) (sym (take_more out i p within ∙ ap (λ (y : Parcel). take i out ++ y ∷ []) (sym item)))

-- the two parts of what waits
pub both : (front back items : List Parcel) (a b : List ℕ) → front ++ back ≡ items → a ≡ [] ++ bytes_of front → b ≡ a ++ bytes_of back → b ≡ bytes_of items
both front back items a b parts one two =
    two ∙ ap (λ (bs : List ℕ). bs ++ bytes_of back) one ∙ sym (bytes-append front back) ∙ ap bytes_of parts

-- each member has an outbox
pub outbox_there : (os : List Outbox) (n : ℕ) → 1 ≤ n → n ≤ length os → AreUntaken os → (o : Outbox) × (outbox_of os n ≡ Some o) × (o.taken ≡ 0)
outbox_there os zero low high h = absurd (omega arith)
outbox_there [] (suc j) low high h = absurd (omega arith)
outbox_there (o ∷ os) (suc zero) low high h = (o, refl, h.0)
outbox_there (o ∷ os) (suc (suc j)) low high h = let rest = outbox_there os (suc j) (omega arith) (omega arith) h.1 in (rest.0, rest.1, rest.2)

pub queued_there : (r : Room) (n : ℕ) (items : List Parcel) (res : Result (List ℕ) AllocError) → IsRoom r → Some items ≡ held_of r.outboxes n → IfOk res (λ b. b ≡ bytes_of items) → QueuedIn r n res
queued_there r n items (Err e) k is value = λ low high untaken unbroken. tt
queued_there r n items (Ok b) k is value = λ low high untaken unbroken.
    let there = outbox_there r.outboxes n low (omega (arith, high, k.members)) untaken in
    value ∙ ap bytes_of (held_there r n items there.0 is there.1) ∙ gathered r n there.0 k there.1 there.2 unbroken

pub queued_nobody : (r : Room) (n : ℕ) (res : Result (List ℕ) AllocError) → IsRoom r → None ≡ held_of r.outboxes n → QueuedIn r n res
queued_nobody r n res k is = λ low high untaken unbroken.
    let there = outbox_there r.outboxes n low (omega (arith, high, k.members)) untaken in
    absurd (nobody_there r n there.0 is there.1)
