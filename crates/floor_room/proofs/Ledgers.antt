-- One more event of a ledger, and how it stands.
use Rattle.std.proofs.Common.{◌≡◌, ℕ, ◌<◌, ◌≤◌, Bool, true, false, cond, List, [], ◌∷◌, ◌++◌, length, Option, Some, None, refl, sym, ap, subst, ◌∙◌, arith, length-append}
use Rattle.std.specs.Prelude.{not, nat_le, count_by}
use Rattle.std.specs.Option.{option_map}
use Rattle.floor_config.specs.Configuration.{Configuration}
use Rattle.floor_config.specs.Lookup.{is_user}
use Rattle.std.proofs.lemmas.Bool.Decides.{nat_tests}
use Rattle.std.proofs.lemmas.List.Sums.{count_by-le-length}
use Rattle.floor_machine.specs.declared.event.Event.{Event}
use Rattle.floor_machine.specs.declared.event.Event.TheVariants.{Say}
use Rattle.floor_machine.specs.declared.machine.Refusal.TheVariants.{Broken, Ended, NoUser}
use Rattle.floor_machine.specs.Conference.{opening}
use Rattle.floor_machine.specs.Change.{IsLawful}
use Rattle.floor_machine.specs.Journal.{IsJournal}
use Rattle.floor_machine.specs.Machine.{Machine, event_refusal, whole}
use Rattle.floor_machine.specs.Next.{next}
use Rattle.floor_machine.proofs.Runs.{after_from-more, lawful-more, members-after}
use Rattle.floor_room.specs.declared.refusal.RoomRefusal.{RoomRefusal}
use Rattle.floor_room.specs.declared.refusal.RoomRefusal.TheVariants.{JournalFull, Refused}
use Rattle.floor_room.specs.declared.status.Phase.{Phase}
use Rattle.floor_room.specs.steps.Kept.{IsLedger}
use Rattle.floor_room.specs.Ledger.{Ledger, broken_off, closed, conference_of, first_of, refusal}
use Rattle.floor_room.specs.Standing.{config_of}
use Rattle.floor_room.specs.Status.{IsStatus, phase_of}
use Rattle.floor_room.proofs.Standing.{unbroken}

-- a ledger that isn't closed is not broken, is open, and its journal has room
pub record IsOpen (l : Ledger) : Type 0 where
  pub unbroken : l.is_broken ≡ false
  pub open_now : (conference_of l).is_open ≡ true
  pub few : length l.journal < 2000000

pub opened : (l : Ledger) → None ≡ closed l → IsOpen l
opened l h = by l.is_broken (conference_of l).is_open (nat_le 2000000 (length l.journal)) refl refl refl h
  where
    fewer : (n : ℕ) → nat_le 2000000 n ≡ false → n < 2000000
    fewer n e = grind (arith, nat_tests)

    by : (a b d : Bool) → l.is_broken ≡ a → (conference_of l).is_open ≡ b → nat_le 2000000 (length l.journal) ≡ d →
        None ≡ cond a (Some (Refused Broken)) (cond (not b) (Some (Refused Ended)) (cond d (Some JournalFull) None)) → IsOpen l
    by true b d e f g h = cc
    by false false d e f g h = cc
    by false true true e f g h = cc
    by false true false e f g h = record { unbroken = e; open_now = f; few = fewer (length l.journal) g }

-- a ledger that takes an event isn't closed
pub allowed-open : (l : Ledger) (e : Event) → refusal l e ≡ None → IsOpen l
allowed-open l e h = opened l (sym (by (closed l) _ h))
  where
    by : (a b : Option RoomRefusal) → first_of a b ≡ None → a ≡ None
    by None b h = refl
    by (Some r) b h = cc

-- why nothing is said for a user by a ledger that isn't closed
pub unsaid : (l : Ledger) (user : ℕ) (bytes : List ℕ) → None ≡ closed l →
    refusal l (Say user bytes) ≡ cond (not (is_user (config_of l) user)) (Some (Refused NoUser)) None
unsaid l user bytes h =
    let o : IsOpen l = opened l h in
    ap (λ (x : Option RoomRefusal). first_of x (option_map Refused (event_refusal (whole (conference_of l)) (Say user bytes)))) (sym h)
    ∙ ap (λ (b : Bool). option_map Refused (cond (not b) (Some Ended) (cond (not (is_user (conference_of l).config user)) (Some NoUser) None))) o.open_now
    ∙ by (is_user (conference_of l).config user)
    ∙ ap (λ (c : Configuration). cond (not (is_user c user)) (Some (Refused NoUser)) None) (unbroken l.is_broken l.config (conference_of l).config o.unbroken)
  where
    by : (b : Bool) → option_map Refused (cond (not b) (Some NoUser) None) ≡ cond (not b) (Some (Refused NoUser)) None
    by true = refl
    by false = refl

-- the journal with one more event
pub journal-more : (l : Ledger) (e : Event) → IsJournal l.config l.journal → length l.journal < 2000000 → IsLawful (conference_of l) e → IsJournal l.config (l.journal ++ e ∷ [])
journal-more l e j few lawful =
    record {
      count = omega (arith, length-append l.journal (e ∷ []));
      lawful = lawful-more (opening l.config) l.journal e j.lawful lawful;
    }

-- the members before an event
pub ledger-few : (l : Ledger) (m : Machine) → IsLedger l m → IsOpen l → length m.conference.members < 4294967295
ledger-few l m k o =
    let few : length (conference_of l).members < 4294967295 = omega (arith, members-after (opening l.config) l.journal, o.few) in
    subst (λ (x : Machine). length x.conference.members < 4294967295) (sym (k.whole o.unbroken)) few

-- a ledger that is broken off
pub ledger-broken : (l : Ledger) (m now : Machine) → IsLedger l m → IsLedger (broken_off l) now
ledger-broken l m now k = record { journal = k.journal; whole = λ h. cc }

-- a ledger with an event that its machine has taken
pub ledger-taken : (l : Ledger) (m now : Machine) (e : Event) (journal : List Event) → IsLedger l m → IsOpen l → IsLawful m.conference e → now ≡ whole (next m.conference e) →
    journal ≡ l.journal ++ e ∷ [] → IsLedger (record { config = l.config; journal = journal; is_broken = false }) now
ledger-taken l m now e journal k o lawful taken is =
    subst (λ (x : List Event). IsLedger (record { config = l.config; journal = x; is_broken = false }) now) (sym is)
    (record {
      journal = journal-more l e k.journal o.few (subst (λ (x : Machine). IsLawful x.conference e) (k.whole o.unbroken) lawful);
      whole = λ h.
          taken
          ∙ ap (λ (x : Machine). whole (next x.conference e)) (k.whole o.unbroken)
          ∙ ap whole (sym (after_from-more (opening l.config) l.journal e));
    })

phase-is : (a b d : Bool) → (a ≡ false → b ≡ d) → phase_of a b ≡ phase_of a d
phase-is true b d h = refl
phase-is false b d h = ap (phase_of false) (h refl)

-- how a ledger stands, by what its machine tells
pub stands : (l : Ledger) (m : Machine) (live ongoing members requests events : ℕ) (phase : Phase) → IsLedger l m → live ≡ count_by (λ x. x.is_live) m.conference.members → ongoing ≡ length m.conference.ongoing →
    ongoing ≤ 256 → (l.is_broken ≡ false → live < 4294967296 → members ≡ live) → (l.is_broken ≡ false → ongoing < 4294967296 → requests ≡ ongoing) → (l.is_broken ≡ true → members ≡ 0) → (l.is_broken ≡ true → requests ≡ 0) → events ≡ length l.journal → phase ≡ phase_of l.is_broken m.conference.is_open →
    IsStatus l (record { members = members; ongoing = requests; events = events; phase = phase })
stands l m live ongoing members requests events phase k is_live is_ongoing few narrow narrow_ongoing none none_ongoing is_events is_phase =
    record {
      phase = is_phase ∙ phase-is l.is_broken m.conference.is_open (conference_of l).is_open (λ h. ap (λ (x : Machine). x.conference.is_open) (k.whole h));
      events = is_events;
      no_members = none;
      none_ongoing = none_ongoing;
      members = λ h.
          let now : live ≡ count_by (λ x. x.is_live) (conference_of l).members = is_live ∙ ap (λ (x : Machine). count_by (λ y. y.is_live) x.conference.members) (k.whole h) in
          let bound : live < 4294967296 = omega (arith, now, count_by-le-length (λ x. x.is_live) (conference_of l).members, members-after (opening l.config) l.journal, k.journal.count) in
          narrow h bound ∙ now;
      ongoing = λ h. narrow_ongoing h (omega arith) ∙ is_ongoing ∙ ap (λ (x : Machine). length x.conference.ongoing) (k.whole h);
    }
