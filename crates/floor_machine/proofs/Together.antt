-- Runs of events put together, the parcels of an event by its members, and how an event settles.
use Rattle.std.proofs.Common.{◌≡◌, ℕ, ◌+◌, ◌<◌, ◌≤◌, true, List, [], ◌∷◌, ◌++◌, length, map, refl, sym, ap, ◌∙◌, arith, append_assoc}
use Rattle.std.specs.Prelude.{◌==◌, All}
use Rattle.std.specs.List.{flat_map}
use Rattle.std.proofs.lemmas.Bool.Decides.{nat_tests}
use Rattle.std.proofs.lemmas.List.Elements.{All-append, All-cons, All-nil, All-weaker}
use Rattle.floor_machine.specs.declared.event.Event.{Event}
use Rattle.floor_machine.specs.declared.member.Member.{Member}
use Rattle.floor_machine.specs.Parcel.{Parcel}
use Rattle.floor_machine.specs.Conference.{Conference, is_numbered_from, opening}
use Rattle.floor_machine.specs.Change.{change, settled, shown}
use Rattle.floor_machine.specs.Journal.{IsLawfulFrom, after_from, parcel, parcels_from, parcels_of, told_from}
use Rattle.floor_machine.specs.Membership.{AfterBoth, BothLawful, ParcelsOfBoth, SentToMembers, SettlesAsQueue, ToldByBoth, ToldOnceJoined}
use Rattle.floor_machine.specs.Outgoing.{Outgoing}
use Rattle.floor_machine.specs.Next.{next, told}
use Rattle.floor_machine.proofs.Entries.{ongoing_of-settled}
use Rattle.floor_machine.proofs.Found.{and_left, and_right}
use Rattle.floor_machine.proofs.Staying.{told-before}
use Rattle.floor_machine.proofs.Sent.{numbered-next}

after-both : (s : Conference) (es fs : List Event) → after_from s (es ++ fs) ≡ after_from (after_from s es) fs
after-both s [] fs = refl
after-both s (e ∷ es) fs = after-both (next s e) es fs

pub after_both : AfterBoth
after_both = after-both

parcels-both : (s : Conference) (es fs : List Event) → parcels_from s (es ++ fs) ≡ parcels_from s es ++ parcels_from (after_from s es) fs
parcels-both s [] fs = refl
parcels-both s (e ∷ es) fs =
    ap (λ (ps : List Parcel). parcels_of s e ++ ps) (parcels-both (next s e) es fs)
    ∙ sym (append_assoc (parcels_of s e) (parcels_from (next s e) es) (parcels_from (after_from (next s e) es) fs))

pub parcels_of_both : ParcelsOfBoth
parcels_of_both = parcels-both

told-both : (s : Conference) (es fs : List Event) (n : ℕ) → told_from s (es ++ fs) n ≡ told_from s es n ++ told_from (after_from s es) fs n
told-both s [] fs n = refl
told-both s (e ∷ es) fs n =
    ap (λ (ms : List Outgoing). told s e n ++ ms) (told-both (next s e) es fs n)
    ∙ sym (append_assoc (told s e n) (told_from (next s e) es n) (told_from (after_from (next s e) es) fs n))

pub told_by_both : ToldByBoth
told_by_both = told-both

lawful-first : (s : Conference) (es fs : List Event) → IsLawfulFrom s (es ++ fs) → IsLawfulFrom s es
lawful-first s [] fs h = tt
lawful-first s (e ∷ es) fs h = (h.0, lawful-first (next s e) es fs h.1)

lawful-second : (s : Conference) (es fs : List Event) → IsLawfulFrom s (es ++ fs) → IsLawfulFrom (after_from s es) fs
lawful-second s [] fs h = h
lawful-second s (e ∷ es) fs h = lawful-second (next s e) es fs h.1

lawful-both : (s : Conference) (es fs : List Event) → IsLawfulFrom s es → IsLawfulFrom (after_from s es) fs → IsLawfulFrom s (es ++ fs)
lawful-both s [] fs h k = k
lawful-both s (e ∷ es) fs h k = (h.0, lawful-both (next s e) es fs h.1 k)

pub both_lawful : BothLawful
both_lawful = λ s es fs. (λ h. (lawful-first s es fs h, lawful-second s es fs h), λ h. lawful-both s es fs h.0 h.1)

-- the parcels of one member
of_one : (n k top : ℕ) (ms : List Outgoing) → n ≡ k → k < top → All (λ (p : Parcel). (k ≤ p.n) × (p.n < top)) (map (parcel n) ms)
of_one n k top [] is below = All-nil (λ (p : Parcel). (k ≤ p.n) × (p.n < top))
of_one n k top (m ∷ ms) is below = All-cons (λ (p : Parcel). (k ≤ p.n) × (p.n < top)) (parcel n m) (map (parcel n) ms) (omega arith, omega arith) (of_one n k top ms is below)

-- those of members that are numbered from k on
of_members : (g : ℕ → List Outgoing) (k : ℕ) (ms : List Member) → is_numbered_from k ms ≡ true →
    All (λ (p : Parcel). (k ≤ p.n) × (p.n < k + length ms)) (flat_map (λ m. map (parcel m.n) (g m.n)) ms)
of_members g k [] h = All-nil (λ (p : Parcel). (k ≤ p.n) × (p.n < k + 0))
of_members g k (m ∷ ms) h =
    All-append (λ (p : Parcel). (k ≤ p.n) × (p.n < k + length (m ∷ ms))) (map (parcel m.n) (g m.n)) (flat_map (λ x. map (parcel x.n) (g x.n)) ms)
    (of_one m.n k (k + length (m ∷ ms)) (g m.n) (equal m.n k (and_left (m.n == k) (is_numbered_from (k + 1) ms) h)) (omega arith))
    (All-weaker (λ (p : Parcel). (k + 1 ≤ p.n) × (p.n < k + 1 + length ms)) (λ (p : Parcel). (k ≤ p.n) × (p.n < k + length (m ∷ ms)))
    (λ p w. (omega (arith, w.0), omega (arith, w.1))) (flat_map (λ x. map (parcel x.n) (g x.n)) ms)
    (of_members g (k + 1) ms (and_right (m.n == k) (is_numbered_from (k + 1) ms) h)))
  where
    equal : (a b : ℕ) → (a == b) ≡ true → a ≡ b
    equal a b e = grind (arith, nat_tests)

pub sent_to_members : SentToMembers
unfolding parcels_of
sent_to_members = λ s e numbered.
    All-weaker (λ (p : Parcel). (1 ≤ p.n) × (p.n < 1 + length (next s e).members)) (λ (p : Parcel). (1 ≤ p.n) × (p.n ≤ length (next s e).members))
    (λ p w. (w.0, omega (arith, w.1))) (flat_map (λ m. map (parcel m.n) (told s e m.n)) (next s e).members)
    (of_members (told s e) 1 (next s e).members (numbered-next s e numbered))

pub told_once_joined : ToldOnceJoined
told_once_joined = λ config es n before. told-before (opening config) es n refl before

pub settles_as_queue : SettlesAsQueue
unfolding next settled shown
settles_as_queue = λ s e.
    ongoing_of-settled (change s e).config.floors (change s e).entries
