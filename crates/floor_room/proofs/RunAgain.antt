-- A journal is run again, event by event.
use Rattle.std.proofs.Common.{◌≡◌, ◌≢◌, ℕ, ◌+◌, ◌-◌, ◌<◌, true, false, List, [], ◌∷◌, ◌++◌, length, get_or, take, map, Option, None, refl, sym, ap, subst, ◌∙◌, arith, append_assoc, append-nil, length-append}
use Rattle.std.specs.Prelude.{◌==◌, Err}
use Rattle.std.specs.List.{concat}
use Rattle.std.proofs.lemmas.Bool.Decides.{nat_tests}
use Rattle.std.proofs.lemmas.List.{take_more, length-take-le}
use Rattle.std.proofs.lemmas.List.Elements.{filter-append}
use Rattle.floor_config.specs.Configuration.{Configuration}
use Rattle.floor_machine.specs.declared.event.Event.{Event}
use Rattle.floor_machine.specs.Parcel.{Parcel}
use Rattle.floor_machine.specs.declared.machine.Refusal.{Refusal}
use Rattle.floor_machine.specs.declared.machine.Refusal.TheVariants.{Broken, Ended, NoMember, NoUser, Full, NoRequest, Cut, BadCount, Memory, OutOfRange, DoubleUser, DoubleFloor, NoFloor, UnknownChair}
use Rattle.floor_machine.specs.Conference.{Conference, opening}
use Rattle.floor_machine.specs.Change.{IsLawful}
use Rattle.floor_machine.specs.Journal.{IsJournal, IsLawfulFrom, Q, after, after_from, parcel, parcels_of, parcels_from, sent_to, told_from}
use Rattle.floor_machine.specs.Outgoing.{Outgoing, outgoing_bytes}
use Rattle.floor_machine.specs.Laws.{IsWhole}
use Rattle.floor_machine.specs.Machine.{Machine, IsRefusedBy, event_refusal, whole}
use Rattle.floor_machine.specs.Next.{next}
use Rattle.floor_machine.proofs.Lawful.{taken_is_lawful}
use Rattle.floor_machine.proofs.Runs.{after_from-more, parcels_from-more, lawful-more, members-after}
use Rattle.floor_machine.proofs.Sent.{sent_is_told}
use Rattle.floor_room.specs.Replay.{IsFirstFault, bytes_of, bytes_to}

bytes_of-append : (ps qs : List Parcel) → bytes_of (ps ++ qs) ≡ bytes_of ps ++ bytes_of qs
bytes_of-append [] qs = refl
bytes_of-append (p ∷ ps) qs = ap (λ (bs : List ℕ). p.bytes ++ bs) (bytes_of-append ps qs) ∙ sym (append_assoc p.bytes (bytes_of ps) (bytes_of qs))

bytes_of-sent : (n : ℕ) (ps qs : List Parcel) → bytes_of (sent_to n (ps ++ qs)) ≡ bytes_of (sent_to n ps) ++ bytes_of (sent_to n qs)
bytes_of-sent n ps qs = ap bytes_of (filter-append (λ p. p.n == n) ps qs) ∙ bytes_of-append (sent_to n ps) (sent_to n qs)

-- a parcel to n, or to another
pub put-own : (bytes new : List ℕ) (p : Parcel) (n : ℕ) → p.n ≡ n → new ≡ bytes ++ p.bytes → new ≡ bytes ++ bytes_of (sent_to n (p ∷ []))
put-own bytes new p n h is = is ∙ ap (λ (bs : List ℕ). bytes ++ bs) (sym (append-nil p.bytes) ∙ sym (ap bytes_of to_own))
  where
    own : (a n : ℕ) → a ≡ n → (a == n) ≡ true
    own a n h = grind (arith, nat_tests)

    to_own : sent_to n (p ∷ []) ≡ p ∷ []
    to_own = rw (own p.n n h) refl

pub put-other : (bytes : List ℕ) (p : Parcel) (n : ℕ) → p.n ≢ n → bytes ≡ bytes ++ bytes_of (sent_to n (p ∷ []))
put-other bytes p n h = sym (append-nil bytes) ∙ ap (λ (bs : List ℕ). bytes ++ bs) (sym (ap bytes_of to_other))
  where
    other : (a n : ℕ) → a ≢ n → (a == n) ≡ false
    other a n h = grind (arith, nat_tests)

    to_other : sent_to n (p ∷ []) ≡ []
    to_other = rw (other p.n n h) refl

taken-more : (out : List Parcel) (i : ℕ) (p : Parcel) → i < length out → p ≡ get_or out i p → take (i + 1) out ≡ take i out ++ p ∷ []
taken-more out i p within is = take_more out i p within ∙ ap (λ (x : Parcel). take i out ++ x ∷ []) (sym is)

-- one more parcel
pub put-more : (out : List Parcel) (i n : ℕ) (p : Parcel) (first bytes new : List ℕ) → i < length out → p ≡ get_or out i p → bytes ≡ first ++ bytes_of (sent_to n (take i out)) →
    new ≡ bytes ++ bytes_of (sent_to n (p ∷ [])) → new ≡ first ++ bytes_of (sent_to n (take (i + 1) out))
put-more out i n p first bytes new within is before put =
    put
    ∙ ap (λ (bs : List ℕ). bs ++ bytes_of (sent_to n (p ∷ []))) before
    ∙ append_assoc first (bytes_of (sent_to n (take i out))) (bytes_of (sent_to n (p ∷ [])))
    ∙ ap (λ (bs : List ℕ). first ++ bs) (sym (bytes_of-sent n (take i out) (p ∷ [])))
    ∙ ap (λ (ps : List Parcel). first ++ bytes_of (sent_to n ps)) (sym (taken-more out i p within is))

events-more : (es : List Event) (i : ℕ) (e : Event) → i < length es → e ≡ get_or es i e → take (i + 1) es ≡ take i es ++ e ∷ []
events-more es i e within is = take_more es i e within ∙ ap (λ (x : Event). take i es ++ x ∷ []) (sym is)

-- the members before an event
pub run-few : (config : Configuration) (es : List Event) (m : Machine) → m ≡ whole (after config es) → IsJournal config es → length m.conference.members < 4294967295
run-few config es m same journal =
    let few : length (after config es).members < 4294967295 = omega (arith, members-after (opening config) es, journal.count) in
    subst (λ (x : Machine). length x.conference.members < 4294967295) (sym same) few

-- what holds before each event
pub record IsRun (config : Configuration) (es : List Event) (n : ℕ) (m : Machine) (bytes : List ℕ) : Type 0 where
  pub journal : IsJournal config es
  pub next : m ≡ whole (after config es)
  pub bytes_are : bytes ≡ bytes_to n config es

-- one more lawful event
run-one : (config : Configuration) (es : List Event) (e : Event) (n : ℕ) (m now : Machine) (bytes new : List ℕ) → IsRun config es n m bytes → length es < 2000000 → IsLawful m.conference e →
    now ≡ whole (next m.conference e) → new ≡ bytes ++ bytes_of (sent_to n (parcels_of m.conference e)) → IsRun config (es ++ e ∷ []) n now new
run-one config es e n m now bytes new r few lawful is_next is_bytes =
    let lawful_now : IsLawful (after config es) e = subst (λ (x : Machine). IsLawful x.conference e) r.next lawful in
    record {
      journal = record { count = omega (arith, length-append es (e ∷ [])); lawful = lawful-more (opening config) es e r.journal.lawful lawful_now };
      next = is_next ∙ ap (λ (x : Machine). whole (next x.conference e)) r.next ∙ ap whole (sym (after_from-more (opening config) es e));
      bytes_are =
          is_bytes
          ∙ ap (λ (x : Machine). bytes ++ bytes_of (sent_to n (parcels_of x.conference e))) r.next
          ∙ ap (λ (bs : List ℕ). bs ++ bytes_of (sent_to n (parcels_of (after config es) e))) r.bytes_are
          ∙ sym (bytes_of-sent n (parcels_from (opening config) es) (parcels_of (after config es) e))
          ∙ ap (λ (ps : List Parcel). bytes_of (sent_to n ps)) (sym (parcels_from-more (opening config) es e));
    }

pub run-more : (config : Configuration) (es : List Event) (i : ℕ) (e : Event) (n : ℕ) (m now : Machine) (bytes new : List ℕ) → i < length es → i < 2000000 → e ≡ get_or es i e →
    IsRun config (take i es) n m bytes → IsLawful m.conference e → now ≡ whole (next m.conference e) → new ≡ bytes ++ bytes_of (sent_to n (parcels_of m.conference e)) →
    IsRun config (take (i + 1) es) n now new
run-more config es i e n m now bytes new within few is r lawful is_next is_bytes =
    subst (λ (xs : List Event). IsRun config xs n now new) (sym (events-more es i e within is))
    (run-one config (take i es) e n m now bytes new r (omega (arith, length-take-le i es)) lawful is_next is_bytes)

last-lawful : (s : Conference) (es : List Event) (e : Event) → IsLawfulFrom s (es ++ e ∷ []) → IsLawful (after_from s es) e
last-lawful s [] e h = h.0
last-lawful s (x ∷ es) e h = last-lawful (next s x) es e h.1

-- an unlawful event makes the events no journal
pub fault-at : (config : Configuration) (es : List Event) (i : ℕ) (e : Event) (m : Machine) → i < length es → e ≡ get_or es i e → IsJournal config (take i es) → m ≡ whole (after config (take i es)) →
    ¬ IsLawful m.conference e → IsFirstFault config es (i + 1)
fault-at config es i e m within is journal same unlawful =
    let one_less : i ≡ i + 1 - 1 = omega arith in
    record {
      first = omega arith;
      last = omega arith;
      before = subst (λ (k : ℕ). IsJournal config (take k es)) one_less journal;
      fault = λ j. unlawful (subst (λ (x : Machine). IsLawful x.conference e) (sym same)
          (last-lawful (opening config) (take i es) e (subst (λ (xs : List Event). IsLawfulFrom (opening config) xs) (events-more es i e within is) j.lawful)));
    }

-- what the machine refuses but for memory isn't lawful
pub refused-unlawful : (m : Machine) (e : Event) (refusal : Refusal) → m ≡ whole m.conference → IsWhole e → refusal ≢ Memory →
    IsRefusedBy {T = Unit {0}} (event_refusal m e) (Err refusal) → ¬ IsLawful m.conference e
refused-unlawful m e refusal same framed other h lawful =
    let none : event_refusal m e ≡ None = ap (λ (x : Machine). event_refusal x e) same ∙ (taken_is_lawful m.conference e framed).1 lawful in
    by refusal other (subst (λ (x : Option Refusal). IsRefusedBy {T = Unit {0}} x (Err refusal)) none h)
  where
    by : (r : Refusal) → r ≢ Memory → IsRefusedBy {T = Unit {0}} None (Err r) → ⊥
    by Broken o k = k
    by Ended o k = k
    by NoMember o k = k
    by NoUser o k = k
    by Full o k = k
    by NoRequest o k = k
    by Cut o k = k
    by BadCount o k = k
    by OutOfRange o k = k
    by DoubleUser o k = k
    by DoubleFloor o k = k
    by NoFloor o k = k
    by UnknownChair o k = k
    by Memory o k = o refl

bytes_of-parcels : (n : ℕ) (ms : List Outgoing) → bytes_of (map (parcel n) ms) ≡ concat (map outgoing_bytes ms)
bytes_of-parcels n [] = refl
bytes_of-parcels n (m ∷ ms) = ap (λ (bs : List ℕ). outgoing_bytes m ++ bs) (bytes_of-parcels n ms)

-- the bytes of a journal's parcels to n
pub bytes-Q : (config : Configuration) (es : List Event) (n : ℕ) → IsJournal config es → bytes_to n config es ≡ Q config es n
bytes-Q config es n journal = ap bytes_of (sent_is_told config es n journal.lawful) ∙ bytes_of-parcels n (told_from (opening config) es n)
