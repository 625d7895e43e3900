-- One more event of a booth.
use Rattle.std.proofs.Common.{◌≡◌, ◌⊎◌, ⊎_elim, ℕ, zero, suc, ◌+◌, ◌-◌, ◌<◌, ◌≤◌, Bool, true, false, true≢false, List, [], ◌∷◌, ◌++◌, length, get_or, Option, Some, None, refl, sym, ap, subst, ◌∙◌, arith, append_assoc, append-nil, length-append, add-one}
use Rattle.std.specs.Prelude.{◌==◌, is_some, slice_set, IsSomeAnd, OnOk, OnErr, Result, Ok, Err}
use Rattle.std.specs.Option.{option_map_or}
use Rattle.std.specs.Result.{IsErrAnd}
use Rattle.std.proofs.lemmas.List.Elements.{filter-append}
use Rattle.floor_config.specs.Configuration.{Configuration}
use Rattle.floor_machine.specs.declared.event.Event.{Event}
use Rattle.floor_machine.specs.Events.{joiner}
use Rattle.floor_machine.specs.Parcel.{Parcel}
use Rattle.floor_machine.specs.Conference.{Conference, opening, is_live}
use Rattle.floor_machine.specs.Change.{IsLawful}
use Rattle.floor_machine.specs.Journal.{IsLawfulFrom, after, parcels_of, sent_to}
use Rattle.floor_machine.proofs.Runs.{after_from-more, members-after}
use Rattle.floor_machine.specs.Membership.{joins}
use Rattle.floor_machine.proofs.Staying as members
use Rattle.floor_machine.specs.declared.machine.Refusal.TheVariants.{Broken, Ended, NoMember, NoUser, Full, NoRequest, Cut, BadCount, Memory, OutOfRange, DoubleUser, DoubleFloor, NoFloor, UnknownChair}
use Rattle.floor_machine.specs.Next.{next}
use Rattle.floor_room.specs.declared.refusal.RoomRefusal.{RoomRefusal}
use Rattle.floor_room.specs.declared.refusal.RoomRefusal.TheVariants.{JournalFull, Refused}
use Rattle.floor_room.specs.Outbox.{empty_outbox}
use Rattle.floor_room.specs.Room.{joined, parcels_to}
use Rattle.floor_room.specs.Ledger.{Ledger, Added, IsRefusedBy, Unadded, conference_of, with_entry}
use Rattle.floor_room.proofs.Adding.{parcels_to-more}
use Rattle.floor_room.proofs.Joining.{members-next, parcels_to-before}
use Rattle.floor_room.proofs.Ledgers.{IsOpen, allowed-open, journal-more}
use Rattle.floor_outbox.specs.Ends.{Sender}
use Rattle.floor_serve.specs.Senders.{AreFed, IsFed, IsInPart, IsPut, fed, sender_of, with_put, without}
use Rattle.floor_serve.specs.Booth.{AreKept, Booth, IsBooth, IsGone, off}

-- senders into which nothing was put yet
abbrev pub AreNew : List (Option Sender) → Type 0
AreNew [] = Unit {0}
AreNew (None ∷ os) = ⊥
AreNew (Some s ∷ os) = (s.put ≡ []) × AreNew os

-- a sender that was put what an event tells its member, or some first part of that
put-more : (all now before out put rest : List Parcel) (n : ℕ) (b : Bool) → now ≡ all ++ sent_to n out → out ≡ put ++ rest → (b ≡ false → rest ≡ []) →
    IsPut all before false → IsPut now (before ++ sent_to n put) b
put-more all now before out put rest n b grown parts whole h =
    record {
      rest = sent_to n rest;
      sent =
          grown
          ∙ ap (λ (ps : List Parcel). ps ++ sent_to n out) (h.sent ∙ ap (λ (ps : List Parcel). before ++ ps) (h.whole refl) ∙ append-nil before)
          ∙ ap (λ (ps : List Parcel). before ++ ps) (ap (sent_to n) parts ∙ filter-append (λ p. p.n == n) put rest)
          ∙ sym (append_assoc before (sent_to n put) (sent_to n rest));
      whole = λ e. ap (sent_to n) (whole e);
    }

fed-more : (all now out put rest : List Parcel) (n : ℕ) (o : Option Sender) (b : Bool) → now ≡ all ++ sent_to n out → out ≡ put ++ rest → (b ≡ false → rest ≡ []) →
    IsFed all false o → IsFed now b (with_put o (sent_to n put))
fed-more all now out put rest n None b grown parts whole h = tt
fed-more all now out put rest n (Some s) b grown parts whole h = put-more all now s.put out put rest n b grown parts whole h

are_fed-more : (config : Configuration) (es : List Event) (e : Event) (put rest : List Parcel) (b : Bool) → IsLawfulFrom (opening config) es → IsLawful (after config es) e →
    parcels_of (after config es) e ≡ put ++ rest → (b ≡ false → rest ≡ []) →
    (n : ℕ) (os : List (Option Sender)) → AreFed config es false n os → AreFed config (es ++ e ∷ []) b n (fed put n os)
are_fed-more config es e put rest b lawful more parts whole n [] h = tt
are_fed-more config es e put rest b lawful more parts whole n (o ∷ os) h = (
  fed-more (parcels_to config es n) (parcels_to config (es ++ e ∷ []) n) (parcels_of (after config es) e) put rest n o b (parcels_to-more config es e n lawful more) parts whole h.0,
  are_fed-more config es e put rest b lawful more parts whole (n + 1) os h.1,
)

-- nothing is called for at a member that joins
are_fed-push : (config : Configuration) (es : List Event) (n : ℕ) (os more : List (Option Sender)) → length (after config es).members < n + length os → AreNew more →
    AreFed config es false n os → AreFed config es false n (os ++ more)
are_fed-push config es n [] [] few new h = tt
are_fed-push config es n [] (None ∷ more) few new h = absurd new
are_fed-push config es n [] (Some s ∷ more) few new h = (
  record { rest = []; sent = parcels_to-before config es n (omega arith) ∙ sym (append-nil s.put ∙ new.0); whole = λ e. refl },
  are_fed-push config es (n + 1) [] more (omega arith) new.1 tt,
)
are_fed-push config es n (o ∷ os) more few new h = (h.0, are_fed-push config es (n + 1) os more (omega arith) new h.1)

-- where an event is broken off, what was put is
fed-broken : (all : List Parcel) (b : Bool) (o : Option Sender) → IsFed all b o → IsFed all true o
fed-broken all b None h = tt
fed-broken all b (Some s) h = record { rest = h.rest; sent = h.sent; whole = λ e. cc }

are_fed-broken : (config : Configuration) (es : List Event) (b : Bool) (n : ℕ) (os : List (Option Sender)) → AreFed config es b n os → AreFed config es true n os
are_fed-broken config es b n [] h = tt
are_fed-broken config es b n (o ∷ os) h = (fed-broken (parcels_to config es n) b o h.0, are_fed-broken config es b (n + 1) os h.1)

pub length-fed : (ps : List Parcel) (n : ℕ) (os : List (Option Sender)) → length (fed ps n os) ≡ length os
length-fed ps n [] = refl
length-fed ps n (o ∷ os) = ap (λ (k : ℕ). suc k) (length-fed ps (n + 1) os)

some-put : (ps : List Parcel) (o : Option Sender) → is_some o ≡ true → is_some (with_put o ps) ≡ true
some-put ps None h = h
some-put ps (Some s) h = refl

-- who has its sender keeps it
some-fed : (ps : List Parcel) (n k : ℕ) (os : List (Option Sender)) → is_some (get_or os k None) ≡ true → is_some (get_or (fed ps n os) k None) ≡ true
some-fed ps n k [] h = h
some-fed ps n zero (o ∷ os) h = some-put (sent_to n ps) o h
some-fed ps n (suc k) (o ∷ os) h = some-fed ps (n + 1) k os h

sender-fed : (ps : List Parcel) (n : ℕ) (os : List (Option Sender)) → is_some (sender_of os n) ≡ true → is_some (sender_of (fed ps 1 os) n) ≡ true
sender-fed ps zero os h = h
sender-fed ps (suc k) os h = some-fed ps 1 k os h

some-append : (k : ℕ) (os more : List (Option Sender)) → is_some (get_or os k None) ≡ true → is_some (get_or (os ++ more) k None) ≡ true
some-append k [] more h = absurd cc
some-append zero (o ∷ os) more h = h
some-append (suc k) (o ∷ os) more h = some-append k os more h

sender-append : (n : ℕ) (os more : List (Option Sender)) → is_some (sender_of os n) ≡ true → is_some (sender_of (os ++ more) n) ≡ true
sender-append zero os more h = h
sender-append (suc k) os more h = some-append k os more h

some-end : (os more : List (Option Sender)) → AreNew more → 0 < length more → is_some (get_or (os ++ more) (length os) None) ≡ true
some-end [] [] new h = absurd (omega arith)
some-end [] (None ∷ more) new h = absurd new
some-end [] (Some s ∷ more) new h = refl
some-end (o ∷ os) more new h = some-end os more new h

sender-end : (n : ℕ) (os more : List (Option Sender)) → AreNew more → 0 < length more → n ≡ length os + 1 → is_some (sender_of (os ++ more) n) ≡ true
sender-end n os more new h e = subst (λ (k : ℕ). is_some (sender_of (os ++ more) k) ≡ true) (sym (e ∙ add-one (length os))) (some-end os more new h)

length-joins : (e : Event) → joins e ≡ length (joined e)
length-joins e = by (joiner e)
  where
    by : (o : Option ℕ) → option_map_or (λ user. 1) o 0 ≡ length (option_map_or (λ user. empty_outbox ∷ []) o [])
    by None = refl
    by (Some user) = refl

-- who is live after an event has its sender
seated-more : (b : Booth) (e : Event) (put : List Parcel) (more : List (Option Sender)) (n : ℕ) → IsBooth b → IsOpen b.ledger → AreNew more → length more ≡ length (joined e) →
    is_live (next (conference_of b.ledger) e) n ≡ true → is_some (sender_of (fed put 1 (b.senders ++ more)) n) ≡ true
seated-more b e put more n k o new same live =
    sender-fed put n (b.senders ++ more)
    (⊎_elim (λ (h : is_live (conference_of b.ledger) n ≡ true). sender-append n b.senders more (k.seated o.unbroken o.open_now n h))
    (λ (h : (joins e ≡ 1) × (n ≡ length (conference_of b.ledger).members + 1)).
    sender-end n b.senders more new (omega (arith, same, h.0, length-joins e)) (h.1 ∙ ap (λ (x : ℕ). x + 1) (sym k.members)))
    (members.live-before (conference_of b.ledger) e n live))

-- a booth of which an event is taken is open
open-of : (l new : Ledger) (e : Event) (out : List Parcel) → Added l new e out → IsOpen l
open-of l new e out a = allowed-open l e a.allowed

-- what a booth keeps after an event of which these parcels were put
pub booth-event : (b : Booth) (new : Ledger) (e : Event) (out put rest : List Parcel) (more : List (Option Sender)) (k : Bool) → IsBooth b → Added b.ledger new e out → out ≡ put ++ rest → (k ≡ false → rest ≡ []) →
    AreNew more → length more ≡ length (joined e) → AreKept (record (with_entry b.ledger e) { is_broken = k }) (fed put 1 (b.senders ++ more))
booth-event b new e out put rest more k h a parts whole fresh same =
    let o : IsOpen b.ledger = open-of b.ledger new e out a in
    let l : Ledger = b.ledger in
    let after_more : after l.config (l.journal ++ e ∷ []) ≡ next (conference_of l) e = after_from-more (opening l.config) l.journal e in
    let sent : AreFed l.config l.journal false 1 b.senders = subst (λ (x : Bool). AreFed l.config l.journal x 1 b.senders) o.unbroken h.sent in
    record {
      journal = journal-more l e h.journal o.few a.lawful;
      members =
          length-fed put 1 (b.senders ++ more)
          ∙ length-append b.senders more
          ∙ ap (λ (x : ℕ). x + length more) h.members
          ∙ ap (λ (x : ℕ). length (conference_of l).members + x) same
          ∙ sym (members-next (conference_of l) e)
          ∙ ap (λ (s : Conference). length s.members) (sym after_more);
      sent =
          are_fed-more l.config l.journal e put rest k h.journal.lawful a.lawful (sym a.told ∙ parts) whole 1 (b.senders ++ more)
          (are_fed-push l.config l.journal 1 b.senders more (omega (arith, h.members)) fresh sent);
      seated = λ _ _ n live. seated-more b e put more n h o fresh same (subst (λ (s : Conference). is_live s n ≡ true) after_more live);
    }

-- what a booth keeps that is broken off
pub booth-off : (b : Booth) → IsBooth b → IsBooth (off b)
booth-off b h =
    record { journal = h.journal; members = h.members; sent = are_fed-broken b.ledger.config b.ledger.journal b.ledger.is_broken 1 b.senders h.sent; seated = λ e. absurd cc }

-- a booth has at most as many members as events
pub members-few : (b : Booth) → IsBooth b → length b.senders ≤ 2000000
members-few b h = omega (arith, h.members, members-after (opening b.ledger.config) b.ledger.journal, h.journal.count)

-- what was put by the sender at a place
pub sent-at : (config : Configuration) (es : List Event) (b : Bool) (m k : ℕ) (os : List (Option Sender)) (x : Option Sender) (s : Sender) → AreFed config es b m os → k < length os → x ≡ get_or os k x → Some s ≡ x →
    IsPut (parcels_to config es (m + k)) s.put b
sent-at config es b m k [] x s h l e f = absurd (omega arith)
sent-at config es b m zero (o ∷ os) x s h l e f =
    subst (λ (i : ℕ). IsPut (parcels_to config es i) s.put b) (omega arith) (subst (λ (y : Option Sender). IsFed (parcels_to config es m) b y) (sym (f ∙ e)) h.0)
sent-at config es b m (suc k) (o ∷ os) x s h l e f =
    subst (λ (i : ℕ). IsPut (parcels_to config es i) s.put b) (omega arith) (sent-at config es b (m + 1) k os x s h.1 (omega arith) e f)

are_fed-none : (config : Configuration) (es : List Event) (b : Bool) (m k : ℕ) (os : List (Option Sender)) → AreFed config es b m os → AreFed config es b m (slice_set os k None)
are_fed-none config es b m k [] h = tt
are_fed-none config es b m zero (o ∷ os) h = (tt, h.1)
are_fed-none config es b m (suc k) (o ∷ os) h = (h.0, are_fed-none config es b (m + 1) k os h.1)

length-none : (k : ℕ) (os : List (Option Sender)) → length (slice_set os k None) ≡ length os
length-none k [] = refl
length-none zero (o ∷ os) = refl
length-none (suc k) (o ∷ os) = ap (λ (x : ℕ). suc x) (length-none k os)

other-none : (i k : ℕ) (os : List (Option Sender)) → (k ≡ i → ⊥) → is_some (get_or os k None) ≡ true → is_some (get_or (slice_set os i None) k None) ≡ true
other-none i k [] apart h = h
other-none zero zero (o ∷ os) apart h = absurd (apart refl)
other-none zero (suc k) (o ∷ os) apart h = h
other-none (suc i) zero (o ∷ os) apart h = h
other-none (suc i) (suc k) (o ∷ os) apart h = other-none i k os (λ e. apart (ap (λ (x : ℕ). suc x) e)) h

sender-none : (n k : ℕ) (os : List (Option Sender)) → (k ≡ n → ⊥) → 0 < n → is_some (sender_of os k) ≡ true → is_some (sender_of (slice_set os (n - 1) None) k) ≡ true
sender-none n zero os apart low h = h
sender-none n (suc k) os apart low h = other-none (n - 1) k os (λ e. apart (omega arith)) h

-- what a booth keeps that gave back a sender
pub booth-reclaimed : (b : Booth) (n : ℕ) (x : Option Sender) → IsBooth b → IsGone b n → 0 < n → x ≡ None → AreKept b.ledger (slice_set b.senders (n - 1) x)
booth-reclaimed b n x h gone low is =
    subst (λ (y : Option Sender). AreKept b.ledger (slice_set b.senders (n - 1) y)) (sym is)
    (record {
      journal = h.journal;
      members = length-none (n - 1) b.senders ∙ h.members;
      sent = are_fed-none b.ledger.config b.ledger.journal b.ledger.is_broken 1 (n - 1) b.senders h.sent;
      seated = λ unbroken is_open k live.
          sender-none n k b.senders
          (λ e. ⊎_elim (λ (g : b.ledger.is_broken ≡ true). absurd (true≢false (sym g ∙ unbroken)))
          (λ (g : ((conference_of b.ledger).is_open ≡ false) ⊎ (is_live (conference_of b.ledger) n ≡ false)).
          ⊎_elim (λ (a : (conference_of b.ledger).is_open ≡ false). absurd (true≢false (sym is_open ∙ a)))
          (λ (a : is_live (conference_of b.ledger) n ≡ false). absurd (true≢false (sym live ∙ ap (is_live (conference_of b.ledger)) e ∙ a))) g)
          gone)
          low (h.seated unbroken is_open k live);
    })

-- what a booth keeps that let go of a sender
pub booth-released : (b : Booth) (n : ℕ) (os : List (Option Sender)) → IsBooth b → IsGone b n → os ≡ without b.senders n → AreKept b.ledger os
booth-released b zero os h gone e = subst (λ (s : List (Option Sender)). AreKept b.ledger s) (sym e) h
booth-released b (suc k) os h gone e =
    let i : suc k - 1 ≡ k = omega arith in
    subst (λ (s : List (Option Sender)). AreKept b.ledger s) (ap (λ (j : ℕ). slice_set b.senders j None) i ∙ sym e)
    (booth-reclaimed b (suc k) None h gone (omega arith) refl)

-- who has a sender isn't 0
pub number-low : (P : Sender → Type 0) (os : List (Option Sender)) (n : ℕ) → IsSomeAnd (sender_of os n) P → 0 < n
number-low P os zero h = absurd h
number-low P os (suc k) h = omega arith

within : (P : Sender → Type 0) (os : List (Option Sender)) (n : ℕ) → IsSomeAnd (sender_of os n) P → n - 1 < length os
within P os zero h = absurd h
within P [] (suc k) h = absurd h
within P (o ∷ os) (suc zero) h = omega arith
within P (o ∷ os) (suc (suc k)) h = omega (arith, within P os (suc k) h)

-- what was put by the sender that a booth gave back
pub reclaimed-sent : (P : Sender → Type 0) (b : Booth) (n : ℕ) (x : Option Sender) (s : Sender) (put : List Parcel) → IsBooth b → IsSomeAnd (sender_of b.senders n) P → x ≡ get_or b.senders (n - 1) x → Some s ≡ x → put ≡ s.put →
    IsPut (parcels_to b.ledger.config b.ledger.journal n) put b.ledger.is_broken
reclaimed-sent P b n x s put h there e f is =
    let low : 0 < n = number-low P b.senders n there in
    let place : 1 + (n - 1) ≡ n = omega arith in
    subst (λ (ps : List Parcel). IsPut (parcels_to b.ledger.config b.ledger.journal n) ps b.ledger.is_broken) (sym is)
    (subst (λ (k : ℕ). IsPut (parcels_to b.ledger.config b.ledger.journal k) s.put b.ledger.is_broken) place
    (sent-at b.ledger.config b.ledger.journal b.ledger.is_broken 1 (n - 1) b.senders x s h.sent (within P b.senders n there) e f))

-- two booths are equal where their ledgers and senders are
same_booth : (l now : Ledger) (os senders : List (Option Sender)) → now ≡ l → senders ≡ os → AreKept l os → AreKept now senders
same_booth l now os senders e f h =
    subst (λ (x : Ledger). AreKept x senders) (sym e)
    (subst (λ (y : List (Option Sender)). AreKept l y) (sym f) h)

-- what a booth keeps after an event whose parcels were put, or after some first of them
pub booth-fed : (b : Booth) (new now : Ledger) (e : Event) (out : List Parcel) (more senders put : List (Option Sender)) (result : Result (Unit {0}) RoomRefusal) → IsBooth b → Added b.ledger new e out →
    AreNew more → length more ≡ length (joined e) → senders ≡ b.senders ++ more →
    OnOk result (put ≡ fed out 1 senders) → OnOk result (now ≡ new) → OnErr result (IsInPart out senders put) → OnErr result (now ≡ record new { is_broken = true }) →
    AreKept now put
booth-fed b new now e out more senders put (Ok x) h a fresh same is all kept part broken =
    same_booth (with_entry b.ledger e) now (fed out 1 (b.senders ++ more)) put (kept ∙ a.next) (all ∙ ap (fed out 1) is)
    (booth-event b new e out out [] more false h a (sym (append-nil out)) (λ _. refl) fresh same)
booth-fed b new now e out more senders put (Err x) h a fresh same is all kept part broken =
    same_booth (record (with_entry b.ledger e) { is_broken = true }) now (fed part.put 1 (b.senders ++ more)) put
    (broken ∙ ap (λ (l : Ledger). record l { is_broken = true }) a.next) (part.senders ∙ ap (fed part.put 1) is)
    (booth-event b new e out part.put part.rest more true h a part.all (λ h. cc) fresh same)

-- what a booth keeps whose ledger took no event
pub booth-unadded : (b : Booth) (now : Ledger) (senders : List (Option Sender)) (refusal : RoomRefusal) → IsBooth b → Unadded b.ledger now refusal → senders ≡ b.senders → AreKept now senders
booth-unadded b now senders JournalFull h e f = same_booth b.ledger now b.senders senders e f h
booth-unadded b now senders (Refused Memory) h e f = same_booth (record b.ledger { is_broken = true }) now b.senders senders e f (booth-off b h)
booth-unadded b now senders (Refused Broken) h e f = same_booth b.ledger now b.senders senders e f h
booth-unadded b now senders (Refused Ended) h e f = same_booth b.ledger now b.senders senders e f h
booth-unadded b now senders (Refused NoMember) h e f = same_booth b.ledger now b.senders senders e f h
booth-unadded b now senders (Refused NoUser) h e f = same_booth b.ledger now b.senders senders e f h
booth-unadded b now senders (Refused Full) h e f = same_booth b.ledger now b.senders senders e f h
booth-unadded b now senders (Refused NoRequest) h e f = same_booth b.ledger now b.senders senders e f h
booth-unadded b now senders (Refused Cut) h e f = same_booth b.ledger now b.senders senders e f h
booth-unadded b now senders (Refused BadCount) h e f = same_booth b.ledger now b.senders senders e f h
booth-unadded b now senders (Refused OutOfRange) h e f = same_booth b.ledger now b.senders senders e f h
booth-unadded b now senders (Refused DoubleUser) h e f = same_booth b.ledger now b.senders senders e f h
booth-unadded b now senders (Refused DoubleFloor) h e f = same_booth b.ledger now b.senders senders e f h
booth-unadded b now senders (Refused NoFloor) h e f = same_booth b.ledger now b.senders senders e f h
booth-unadded b now senders (Refused UnknownChair) h e f = same_booth b.ledger now b.senders senders e f h

-- the members after a join
pub booth-number : (b : Booth) (out : List Parcel) (s : Sender) (senders put : List (Option Sender)) → IsBooth b → put ≡ fed out 1 senders → senders ≡ b.senders ++ Some s ∷ [] →
    length put ≡ length (conference_of b.ledger).members + 1
booth-number b out s senders put h e f =
    ap length e ∙ length-fed out 1 senders ∙ ap length f ∙ length-append b.senders (Some s ∷ []) ∙ ap (λ (n : ℕ). n + 1) h.members

-- a call is refused as the call that it makes
pub refused-as : (A B : Type 0) (p o : Option RoomRefusal) (e : RoomRefusal) (result : Result B RoomRefusal) → p ≡ o → IsErrAnd result (λ x. x ≡ e) → IsRefusedBy {T = A} p (Err e) → IsRefusedBy {T = B} o result
refused-as A B p o e result same is h = subst (λ (x : Option RoomRefusal). IsRefusedBy {T = B} x result) same (by p result is h)
  where
    by : (q : Option RoomRefusal) (r : Result B RoomRefusal) → IsErrAnd r (λ x. x ≡ e) → IsRefusedBy {T = A} q (Err e) → IsRefusedBy {T = B} q r
    by q (Ok x) is h = absurd is
    by (Some y) (Err x) is h = let known : e ≡ y = cc in ap (λ (z : RoomRefusal). Err z) (is ∙ known)
    by None (Err x) is h = is ∙ h
