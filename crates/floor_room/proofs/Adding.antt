-- One more event of a room.
use Rattle.std.proofs.Common.{◌≡◌, ◌⊎◌, ℕ, suc, ◌+◌, ◌*◌, ◌<◌, ◌≤◌, inl, inr, zero, Bool, true, false, cond, List, [], ◌∷◌, ◌++◌, length, take, Option, Some, None, refl, sym, ap, subst, ◌∙◌, arith, append_assoc, append-nil, length-append, take_all}
use Rattle.std.specs.Prelude.{◌==◌, Err}
use Rattle.std.specs.Option.{option_map_or}
use Rattle.std.proofs.lemmas.List.{length-map, take-append-le}
use Rattle.std.proofs.lemmas.Bool.Decides.{eqb_tells}
use Rattle.std.proofs.lemmas.List.Elements.{filter-append}
use Rattle.floor_config.specs.Configuration.{Configuration}
use Rattle.floor_machine.specs.declared.event.Event.{Event}
use Rattle.floor_machine.specs.declared.event.Event.TheVariants.{Join}
use Rattle.floor_machine.specs.Events.{joiner}
use Rattle.floor_machine.specs.Parcel.{Parcel}
use Rattle.floor_machine.specs.declared.machine.Refusal.TheVariants.{Broken, Ended, NoMember, NoUser, Full, NoRequest, Cut, BadCount, Memory, OutOfRange, DoubleUser, DoubleFloor, NoFloor, UnknownChair}
use Rattle.floor_machine.specs.Conference.{Conference, opening}
use Rattle.floor_machine.specs.Change.{IsLawful}
use Rattle.floor_machine.specs.Journal.{IsLawfulFrom, after, parcel, parcels_of, parcels_from, sent_to, told_from}
use Rattle.floor_machine.specs.Next.{next, told}
use Rattle.floor_machine.proofs.Runs.{after_from-more, parcels_from-more, lawful-more}
use Rattle.floor_machine.proofs.Sent.{sent_is_told}
use Rattle.floor_room.specs.declared.refusal.RoomRefusal.{RoomRefusal}
use Rattle.floor_room.specs.declared.refusal.RoomRefusal.TheVariants.{JournalFull, Refused}
use Rattle.floor_room.specs.Calls.{Left, told_by, with_event}
use Rattle.floor_room.specs.steps.Kept.{AreCounted, Keeps}
use Rattle.floor_room.specs.Ledger.{Ledger, Added, IsRefusedBy, Unadded, broken_off, conference_of, with_entry}
use Rattle.floor_room.specs.Outbox.{Outbox, delivered, empty_outbox, with_held}
use Rattle.floor_room.specs.Room.{Room, IsRoom, IsSent, AreSent, AreHanded, broken_room, joined, parcels_to}
use Rattle.floor_room.proofs.Joining.{members-next, parcels_to-before}
use Rattle.floor_room.proofs.Ledgers.{IsOpen, allowed-open, journal-more}

-- what a journal calls for with one more event
pub parcels_to-more : (config : Configuration) (es : List Event) (e : Event) (n : ℕ) → IsLawfulFrom (opening config) es → IsLawful (after config es) e →
    parcels_to config (es ++ e ∷ []) n ≡ parcels_to config es n ++ sent_to n (parcels_of (after config es) e)
parcels_to-more config es e n lawful more =
    sym (sent_is_told config (es ++ e ∷ []) n (lawful-more (opening config) es e lawful more))
    ∙ ap (sent_to n) (parcels_from-more (opening config) es e)
    ∙ filter-append (λ p. p.n == n) (parcels_from (opening config) es) (parcels_of (after config es) e)
    ∙ ap (λ (ps : List Parcel). ps ++ sent_to n (parcels_of (after config es) e)) (sent_is_told config es n lawful)

regroup : (taken held none put rest : List Parcel) → none ≡ [] → (taken ++ held ++ none) ++ (put ++ rest) ≡ taken ++ (held ++ put) ++ rest
regroup taken held none put rest h =
    ap (λ (xs : List Parcel). (taken ++ held ++ xs) ++ (put ++ rest)) h ∙ simp (append_assoc, append-nil)

-- an outbox with what an event tells its member, or some first part of that
sent-more : (all now out put rest : List Parcel) (n : ℕ) (o : Outbox) (b : Bool) → now ≡ all ++ sent_to n out → out ≡ put ++ rest → (b ≡ false → rest ≡ []) →
    IsSent all o false → IsSent now (with_held o (sent_to n put)) b
sent-more all now out put rest n o b grown parts whole h =
    record {
      taken = h.taken;
      count = h.count;
      rest = sent_to n rest;
      sent =
          grown
          ∙ ap (λ (ps : List Parcel). ps ++ sent_to n out) h.sent
          ∙ ap (λ (ps : List Parcel). (h.taken ++ o.held ++ h.rest) ++ ps) (ap (sent_to n) parts ∙ filter-append (λ p. p.n == n) put rest)
          ∙ regroup h.taken o.held h.rest (sent_to n put) (sent_to n rest) (h.whole refl);
      whole = λ e. ap (sent_to n) (whole e);
    }

are_sent-more : (config : Configuration) (es : List Event) (e : Event) (put rest : List Parcel) (b : Bool) → IsLawfulFrom (opening config) es → IsLawful (after config es) e →
    parcels_of (after config es) e ≡ put ++ rest → (b ≡ false → rest ≡ []) →
    (n : ℕ) (os : List Outbox) → AreSent config es false n os → AreSent config (es ++ e ∷ []) b n (delivered put n os)
are_sent-more config es e put rest b lawful more parts whole n [] h = tt
are_sent-more config es e put rest b lawful more parts whole n (o ∷ os) h = (
  sent-more (parcels_to config es n) (parcels_to config (es ++ e ∷ []) n) (parcels_of (after config es) e) put rest n o b (parcels_to-more config es e n lawful more) parts whole h.0,
  are_sent-more config es e put rest b lawful more parts whole (n + 1) os h.1,
)

-- nothing is sent to a member that joins
are_sent-push : (config : Configuration) (es : List Event) (n : ℕ) (os : List Outbox) → length (after config es).members < n + length os →
    AreSent config es false n os → AreSent config es false n (os ++ empty_outbox ∷ [])
are_sent-push config es n [] few h =
    (record { taken = []; count = refl; rest = []; sent = parcels_to-before config es n (omega arith); whole = λ e. refl }, tt)
are_sent-push config es n (o ∷ os) few h = (h.0, are_sent-push config es (n + 1) os (omega arith) h.1)

are_sent-joined : (config : Configuration) (es : List Event) (e : Event) (os : List Outbox) → length os ≡ length (after config es).members →
    AreSent config es false 1 os → AreSent config es false 1 (os ++ joined e)
are_sent-joined config es e os same h = by (joiner e)
  where
    by : (o : Option ℕ) → AreSent config es false 1 (os ++ option_map_or (λ user. empty_outbox ∷ []) o [])
    by None = subst (AreSent config es false 1) (sym (append-nil os)) h
    by (Some user) = are_sent-push config es 1 os (omega arith) h

-- where an event is broken off, what was sent is
are_sent-broken : (config : Configuration) (es : List Event) (b : Bool) (n : ℕ) (os : List Outbox) → AreSent config es b n os → AreSent config es true n os
are_sent-broken config es b n [] h = tt
are_sent-broken config es b n (o ∷ os) h =
    (record { taken = h.0.taken; count = h.0.count; rest = h.0.rest; sent = h.0.sent; whole = λ e. cc }, are_sent-broken config es b (n + 1) os h.1)

length-delivered : (ps : List Parcel) (n : ℕ) (os : List Outbox) → length (delivered ps n os) ≡ length os
length-delivered ps n [] = refl
length-delivered ps n (o ∷ os) = ap (λ (k : ℕ). suc k) (length-delivered ps (n + 1) os)

length-sent_to : (n : ℕ) (ps : List Parcel) → length (sent_to n ps) ≤ length ps
length-sent_to n [] = omega arith
length-sent_to n (p ∷ ps) = by (p.n == n) (length-sent_to n ps)
  where
    by : (b : Bool) → length (sent_to n ps) ≤ length ps → length (cond b (p ∷ sent_to n ps) (sent_to n ps)) ≤ length (p ∷ ps)
    by true h = omega arith
    by false h = omega arith

-- the counts grow by what memory holds at most
counted-more : (k : ℕ) (ps : List Parcel) (n : ℕ) (os : List Outbox) → length ps < 18446744073709551616 → AreCounted k os → AreCounted (k + 1) (delivered ps n os)
counted-more k ps n [] few h = tt
counted-more k ps n (o ∷ os) few h =
    (omega (arith, length-append o.held (sent_to n ps), length-sent_to n ps, h.0), counted-more k ps (n + 1) os few h.1)

counted-append : (k : ℕ) (os more : List Outbox) → AreCounted k os → AreCounted k more → AreCounted k (os ++ more)
counted-append k [] more h m = m
counted-append k (o ∷ os) more h m = (h.0, counted-append k os more h.1 m)

counted-joined : (k : ℕ) (e : Event) → AreCounted k (joined e)
counted-joined k e = by (joiner e)
  where
    by : (o : Option ℕ) → AreCounted k (option_map_or (λ user. empty_outbox ∷ []) o [])
    by None = tt
    by (Some user) = (omega arith, tt)

no-truth : true ≡ false → ⊥
no-truth e = cc

-- fewer of the events call for no more
told-fewer : (s : Conference) (es : List Event) (k m n : ℕ) → k ≤ m → length (told_from s (take k es) n) ≤ length (told_from s (take m es) n)
told-fewer s es zero m n h = omega arith
told-fewer s es (suc k) zero n h = absurd (omega (arith, h))
told-fewer s [] (suc k) (suc m) n h = omega arith
told-fewer s (e ∷ es) (suc k) (suc m) n h =
    let rest = told-fewer (next s e) es k m n (omega (arith, h)) in
    omega (arith, rest, length-append (told s e n) (told_from (next s e) (take k es) n), length-append (told s e n) (told_from (next s e) (take m es) n))

pub counted-fewer : (config : Configuration) (es : List Event) (k m n : ℕ) → k ≤ m → length (parcels_to config (take k es) n) ≤ length (parcels_to config (take m es) n)
counted-fewer config es k m n h =
    let some = told-fewer (opening config) es k m n h in
    omega (arith, some, length-map (told_from (opening config) (take k es) n) (parcel n), length-map (told_from (opening config) (take m es) n) (parcel n))

told-front : (s : Conference) (es fs : List Event) (k n : ℕ) → length (told_from s (take k es) n) ≤ length (told_from s (take k (es ++ fs)) n)
told-front s [] fs k n = by k
  where
    by : (k : ℕ) → length (told_from s (take k []) n) ≤ length (told_from s (take k fs) n)
    by zero = omega arith
    by (suc k) = omega arith
told-front s (e ∷ es) fs zero n = omega arith
told-front s (e ∷ es) fs (suc k) n =
    let rest = told-front (next s e) es fs k n in
    omega (arith, rest, length-append (told s e n) (told_from (next s e) (take k es) n), length-append (told s e n) (told_from (next s e) (take k (es ++ fs)) n))

counted-front : (config : Configuration) (es fs : List Event) (k n : ℕ) → length (parcels_to config (take k es) n) ≤ length (parcels_to config (take k (es ++ fs)) n)
counted-front config es fs k n =
    let some = told-front (opening config) es fs k n in
    omega (arith, some, length-map (told_from (opening config) (take k es) n) (parcel n), length-map (told_from (opening config) (take k (es ++ fs)) n) (parcel n))

-- as many events more call for no less
pub are_handed-fewer : (config : Configuration) (es : List Event) (k m n : ℕ) (os : List Outbox) → k ≤ m → AreHanded config (take k es) n os → AreHanded config (take m es) n os
are_handed-fewer config es k m n [] h a = tt
are_handed-fewer config es k m n (o ∷ os) h a =
    let more = counted-fewer config es k m n h in
    (omega (arith, more, a.0), are_handed-fewer config es k m (n + 1) os h a.1)

are_handed-front : (config : Configuration) (es fs : List Event) (k n : ℕ) (os : List Outbox) → AreHanded config (take k es) n os → AreHanded config (take k (es ++ fs)) n os
are_handed-front config es fs k n [] a = tt
are_handed-front config es fs k n (o ∷ os) a =
    let more = counted-front config es fs k n in
    (omega (arith, more, a.0), are_handed-front config es fs k (n + 1) os a.1)

are_handed-delivered : (config : Configuration) (es : List Event) (ps : List Parcel) (n : ℕ) (os : List Outbox) → AreHanded config es n os → AreHanded config es n (delivered ps n os)
are_handed-delivered config es ps n [] a = tt
are_handed-delivered config es ps n (o ∷ os) a = (a.0, are_handed-delivered config es ps (n + 1) os a.1)

are_handed-push : (config : Configuration) (es : List Event) (n : ℕ) (os : List Outbox) → AreHanded config es n os → AreHanded config es n (os ++ empty_outbox ∷ [])
are_handed-push config es n [] a = (omega arith, tt)
are_handed-push config es n (o ∷ os) a = (a.0, are_handed-push config es (n + 1) os a.1)

are_handed-joined : (config : Configuration) (es : List Event) (e : Event) (os : List Outbox) → AreHanded config es 1 os → AreHanded config es 1 (os ++ joined e)
are_handed-joined config es e os a = by (joiner e)
  where
    by : (o : Option ℕ) → AreHanded config es 1 (os ++ option_map_or (λ user. empty_outbox ∷ []) o [])
    by None = subst (AreHanded config es 1) (sym (append-nil os)) a
    by (Some user) = are_handed-push config es 1 os a

-- all is handed out that is queued
pub are_handed-sent : (config : Configuration) (es : List Event) (b : Bool) (n : ℕ) (os : List Outbox) → AreSent config es b n os → AreHanded config es n os
are_handed-sent config es b n [] s = tt
are_handed-sent config es b n (o ∷ os) s =
    let all = ap length s.0.sent in
    let count = s.0.count in
    (omega (arith, all, count, length-append (s.0.taken ++ o.held) s.0.rest, length-append s.0.taken o.held), are_handed-sent config es b (n + 1) os s.1)

-- behind how many events none has told anything
told-within : (r : Room) (e : Event) (put : List Parcel) (b : Bool) → r.told ≤ length r.ledger.journal → told_by r put b ≤ length (r.ledger.journal ++ e ∷ [])
told-within r e put true h = let len = length-append r.ledger.journal (e ∷ []) in omega (arith, len)
told-within r e [] false h = let len = length-append r.ledger.journal (e ∷ []) in omega (arith, len, h)
told-within r e (p ∷ ps) false h = let len = length-append r.ledger.journal (e ∷ []) in omega (arith, len)

Quiet : Configuration → List Event → ℕ → Type 0
Quiet config es k = (n : ℕ) → parcels_to config es n ≡ parcels_to config (take k es) n

quiet-all : (config : Configuration) (es : List Event) (k : ℕ) → length es ≤ k → Quiet config es k
unfolding Quiet
quiet-all config es k h n = ap (λ (fs : List Event). parcels_to config fs n) (sym (take_all k es h))

quiet-more : (r : Room) (e : Event) (put rest : List Parcel) (b : Bool) → IsLawfulFrom (opening r.ledger.config) r.ledger.journal → IsLawful (conference_of r.ledger) e → r.told ≤ length r.ledger.journal →
    parcels_of (conference_of r.ledger) e ≡ put ++ rest → (b ≡ false → rest ≡ []) → Quiet r.ledger.config r.ledger.journal r.told → Quiet r.ledger.config (r.ledger.journal ++ e ∷ []) (told_by r put b)
unfolding Quiet
quiet-more r e put rest true lawful one within parts whole q = quiet-all r.ledger.config (r.ledger.journal ++ e ∷ []) (length r.ledger.journal + 1) (let len = length-append r.ledger.journal (e ∷ []) in omega (arith, len))
quiet-more r e (p ∷ ps) rest false lawful one within parts whole q = quiet-all r.ledger.config (r.ledger.journal ++ e ∷ []) (length r.ledger.journal + 1) (let len = length-append r.ledger.journal (e ∷ []) in omega (arith, len))
quiet-more r e [] rest false lawful one within parts whole q = λ n.
    parcels_to-more r.ledger.config r.ledger.journal e n lawful one
    ∙ ap (λ (ps : List Parcel). parcels_to r.ledger.config r.ledger.journal n ++ sent_to n ps) (parts ∙ whole refl)
    ∙ append-nil (parcels_to r.ledger.config r.ledger.journal n)
    ∙ q n
    ∙ ap (λ (fs : List Event). parcels_to r.ledger.config fs n) (sym (take-append-le r.told r.ledger.journal (e ∷ []) within))

is-quiet : (config : Configuration) (es : List Event) (k : ℕ) → Quiet config es k → (n : ℕ) → parcels_to config es n ≡ parcels_to config (take k es) n
unfolding Quiet
is-quiet config es k q = q

to-quiet : (config : Configuration) (es : List Event) (k : ℕ) → ((n : ℕ) → parcels_to config es n ≡ parcels_to config (take k es) n) → Quiet config es k
unfolding Quiet
to-quiet config es k q = q

-- a room after an event of which these parcels are queued
pub room-event : (r : Room) (e : Event) (put rest : List Parcel) (b : Bool) → IsRoom r → r.ledger.is_broken ≡ false → length r.ledger.journal < 2000000 →
    IsLawful (conference_of r.ledger) e → parcels_of (conference_of r.ledger) e ≡ put ++ rest → (b ≡ false → rest ≡ []) → IsRoom (with_event r e put b)
room-event r e put rest b k unbroken few lawful parts whole =
    let l : Ledger = r.ledger in
    let sent : AreSent l.config l.journal false 1 r.outboxes = subst (λ (x : Bool). AreSent l.config l.journal x 1 r.outboxes) unbroken k.sent in
    record {
      journal = journal-more l e k.journal few lawful;
      members =
          length-delivered put 1 (r.outboxes ++ joined e)
          ∙ length-append r.outboxes (joined e)
          ∙ ap (λ (x : ℕ). x + length (joined e)) k.members
          ∙ sym (members-next (conference_of l) e)
          ∙ ap (λ (s : Conference). length s.members) (sym (after_from-more (opening l.config) l.journal e));
      sent =
          are_sent-more l.config l.journal e put rest b k.journal.lawful lawful parts whole 1 (r.outboxes ++ joined e)
          (are_sent-joined l.config l.journal e r.outboxes k.members sent);
      within = told-within r e put b k.within;
      quiet =
          is-quiet l.config (l.journal ++ e ∷ []) (told_by r put b)
          (quiet-more r e put rest b k.journal.lawful lawful k.within parts whole (to-quiet l.config l.journal r.told k.quiet));
      handed =
          are_handed-delivered l.config (take r.kept (l.journal ++ e ∷ [])) put 1 (r.outboxes ++ joined e)
          (are_handed-joined l.config (take r.kept (l.journal ++ e ∷ [])) e r.outboxes (are_handed-front l.config l.journal (e ∷ []) r.kept 1 r.outboxes k.handed));
    }

-- the counts after it
pub counted-event : (r : Room) (e : Event) (put : List Parcel) → length put < 18446744073709551616 → AreCounted (length r.ledger.journal) r.outboxes →
    AreCounted (length (r.ledger.journal ++ e ∷ [])) (delivered put 1 (r.outboxes ++ joined e))
counted-event r e put fits h =
    let k : ℕ = length r.ledger.journal in
    subst (λ (x : ℕ). AreCounted x (delivered put 1 (r.outboxes ++ joined e))) (sym (length-append r.ledger.journal (e ∷ [])))
    (counted-more k put 1 (r.outboxes ++ joined e) fits (counted-append k r.outboxes (joined e) h (counted-joined k e)))

-- as many events more are kept
pub keeps-more : (r : Room) (k room_for : ℕ) → r.kept ≤ k → Keeps r room_for → Keeps (record r { kept = k }) room_for
keeps-more r k room_for h s = record {
  room = record {
    journal = s.room.journal;
    members = s.room.members;
    sent = s.room.sent;
    within = s.room.within;
    quiet = s.room.quiet;
    handed = are_handed-fewer r.ledger.config r.ledger.journal r.kept k 1 r.outboxes h s.room.handed;
  };
  counted = s.counted;
  spare = s.spare;
}

-- all events so far are kept
pub keeps-all : (r : Room) (k room_for : ℕ) → length r.ledger.journal ≤ k → Keeps r room_for → Keeps (record r { kept = k }) room_for
keeps-all r k room_for h s = record {
  room = record {
    journal = s.room.journal;
    members = s.room.members;
    sent = s.room.sent;
    within = s.room.within;
    quiet = s.room.quiet;
    handed =
        subst (λ (es : List Event). AreHanded r.ledger.config es 1 r.outboxes) (sym (take_all k r.ledger.journal h))
        (are_handed-sent r.ledger.config r.ledger.journal r.ledger.is_broken 1 r.outboxes s.room.sent);
  };
  counted = s.counted;
  spare = s.spare;
}

-- what a room keeps that is broken off
pub keeps-broken : (r : Room) (room_for : ℕ) → Keeps r room_for → Keeps (broken_room r) room_for
keeps-broken r room_for k =
    record {
      room = record {
        journal = k.room.journal;
        members = k.room.members;
        sent = are_sent-broken r.ledger.config r.ledger.journal r.ledger.is_broken 1 r.outboxes k.room.sent;
        within = k.room.within;
        quiet = k.room.quiet;
        handed = k.room.handed;
      };
      counted = k.counted;
      spare = λ h. cc;
    }

-- what a room keeps whose ledger has not taken an event
pub keeps-unadded : (r : Room) (new : Ledger) (why : RoomRefusal) (room_for : ℕ) → Keeps r room_for → Unadded r.ledger new why → Keeps (record r { ledger = new }) room_for
keeps-unadded r new why room_for k h = by why h
  where
    same : new ≡ r.ledger → Keeps (record r { ledger = new }) room_for
    same e = subst (λ (x : Ledger). Keeps (record r { ledger = x }) room_for) (sym e) k

    by : (w : RoomRefusal) → Unadded r.ledger new w → Keeps (record r { ledger = new }) room_for
    by JournalFull e = same e
    by (Refused Broken) e = same e
    by (Refused Ended) e = same e
    by (Refused NoMember) e = same e
    by (Refused NoUser) e = same e
    by (Refused Full) e = same e
    by (Refused NoRequest) e = same e
    by (Refused Cut) e = same e
    by (Refused BadCount) e = same e
    by (Refused OutOfRange) e = same e
    by (Refused DoubleUser) e = same e
    by (Refused DoubleFloor) e = same e
    by (Refused NoFloor) e = same e
    by (Refused UnknownChair) e = same e
    by (Refused Memory) e =
        subst (λ (x : Ledger). Keeps (record r { ledger = x }) room_for) (sym e) (keeps-broken r room_for k)

-- what a room keeps whose ledger has taken an event, of which these parcels are queued
pub keeps-queued : (r : Room) (new now : Ledger) (e : Event) (out put rest : List Parcel) (b : Bool) (outboxes : List Outbox) (told_now room_for given : ℕ) → Keeps r room_for →
    Added r.ledger new e out → length out < 18446744073709551616 → out ≡ put ++ rest → (b ≡ false → rest ≡ []) →
    now ≡ record { config = new.config; journal = new.journal; is_broken = b } → outboxes ≡ delivered put 1 (r.outboxes ++ joined e) → told_now ≡ told_by r put b → (b ≡ false → length outboxes < given) →
    Keeps (record { ledger = now; outboxes = outboxes; told = told_now; kept = r.kept }) given
keeps-queued r new now e out put rest b outboxes told_now room_for given k added fits parts whole is_ledger is_outboxes is_told spare =
    let o : IsOpen r.ledger = allowed-open r.ledger e added.allowed in
    let few : length put < 18446744073709551616 = omega (arith, fits, ap length parts, length-append put rest) in
    let is : with_event r e put b ≡ record { ledger = now; outboxes = outboxes; told = told_now; kept = r.kept } =
    ap (λ (l : Ledger). record { ledger = record { config = l.config; journal = l.journal; is_broken = b }; outboxes = delivered put 1 (r.outboxes ++ joined e); told = told_by r put b; kept = r.kept }) (sym added.next)
    ∙ ap (λ (l : Ledger). record { ledger = l; outboxes = delivered put 1 (r.outboxes ++ joined e); told = told_by r put b; kept = r.kept }) (sym is_ledger)
    ∙ ap (λ (os : List Outbox). record { ledger = now; outboxes = os; told = told_by r put b; kept = r.kept }) (sym is_outboxes)
    ∙ ap (λ (k : ℕ). record { ledger = now; outboxes = outboxes; told = k; kept = r.kept }) (sym is_told) in
    subst (λ (x : Room). (b ≡ false → length x.outboxes < given) → Keeps x given) is
    (λ s. record {
      room = room-event r e put rest b k.room o.unbroken o.few added.lawful (sym added.told ∙ parts) whole;
      counted = counted-event r e put few k.counted;
      spare = s;
    })
    spare

-- a ledger that has taken an event isn't broken
pub entry-whole : (old new : Ledger) (e : Event) → new ≡ with_entry old e → new ≡ record { config = new.config; journal = new.journal; is_broken = false }
entry-whole old new e h = h ∙ sym (ap (λ (l : Ledger). record { config = l.config; journal = l.journal; is_broken = false }) h)

-- a call that its ledger refuses
pub left-unadded : (r : Room) (new : Ledger) (e : Event) (why : RoomRefusal) → Unadded r.ledger new why → Left r (record r { ledger = new }) e why
left-unadded r new e why h = by why h
  where
    same : (x : Ledger) → new ≡ x → Rattle.std.proofs.Common.◌≡◌ {A = Room} (record r { ledger = new }) (record r { ledger = x })
    same x is = ap (λ (y : Ledger). record r { ledger = y }) is

    by : (w : RoomRefusal) → Unadded r.ledger new w → Left r (record r { ledger = new }) e w
    by JournalFull is = same r.ledger is
    by (Refused Broken) is = same r.ledger is
    by (Refused Ended) is = same r.ledger is
    by (Refused NoMember) is = same r.ledger is
    by (Refused NoUser) is = same r.ledger is
    by (Refused Full) is = same r.ledger is
    by (Refused NoRequest) is = same r.ledger is
    by (Refused Cut) is = same r.ledger is
    by (Refused BadCount) is = same r.ledger is
    by (Refused OutOfRange) is = same r.ledger is
    by (Refused DoubleUser) is = same r.ledger is
    by (Refused DoubleFloor) is = same r.ledger is
    by (Refused NoFloor) is = same r.ledger is
    by (Refused UnknownChair) is = same r.ledger is
    by (Refused Memory) is = inl (same (broken_off r.ledger) is)

-- a call is refused as the call that it makes
pub refused-as : (A B : Type 0) (p : Option RoomRefusal) (why : RoomRefusal) → IsRefusedBy {T = A} p (Err why) → IsRefusedBy {T = B} p (Err why)
refused-as A B (Some y) why h = let known : why ≡ y = cc in ap (λ (z : RoomRefusal). Err z) known
refused-as A B None why h = h

-- what memory refuses, nothing else does
pub refused-memory : (B : Type 0) (p : Option RoomRefusal) → p ≡ None → IsRefusedBy {T = B} p (Err (Refused Memory))
refused-memory B p h = subst (λ (x : Option RoomRefusal). IsRefusedBy {T = B} x (Err (Refused Memory))) (sym h) refl

-- the outboxes after a join
pub joined-number : (r new : Room) (user : ℕ) (ps : List Parcel) → IsRoom r → new ≡ with_event r (Join user) ps false → length new.outboxes ≡ length (conference_of r.ledger).members + 1
joined-number r new user ps k is =
    ap (λ (x : Room). length x.outboxes) is
    ∙ length-delivered ps 1 (r.outboxes ++ empty_outbox ∷ [])
    ∙ length-append r.outboxes (empty_outbox ∷ [])
    ∙ ap (λ (n : ℕ). n + 1) k.members

-- behind how many events none has told anything, where these parcels were told, or none
pub told-some : (r : Room) (out : List Parcel) (count : ℕ) (new : Ledger) (e : Event) (told_now : ℕ) → count ≡ length out → new ≡ with_entry r.ledger e → (count == 0) ≡ false → told_now ≡ length new.journal
    → told_now ≡ told_by r out false
told-some r [] count new e told_now size next_is some is = absurd (no-truth (sym (ap (λ (k : ℕ). k == 0) size) ∙ some))
told-some r (p ∷ ps) count new e told_now size next_is some is = is ∙ ap (λ (l : Ledger). length l.journal) next_is ∙ length-append r.ledger.journal (e ∷ [])

pub told-none : (r : Room) (out : List Parcel) (count : ℕ) → count ≡ length out → (count == 0) ≡ true → r.told ≡ told_by r out false
told-none r [] count size none = refl
told-none r (p ∷ ps) count size none = elim (eqb_tells count 0) [
  | inl w ↦ absurd (omega (arith, size, w.1))
  | inr w ↦ absurd (no-truth (sym none ∙ w.0))
]

pub told-broken : (r : Room) (put : List Parcel) (new : Ledger) (e : Event) (told_now : ℕ) → new ≡ with_entry r.ledger e → told_now ≡ length new.journal → told_now ≡ told_by r put true
told-broken r put new e told_now next_is is = is ∙ ap (λ (l : Ledger). length l.journal) next_is ∙ length-append r.ledger.journal (e ∷ [])
