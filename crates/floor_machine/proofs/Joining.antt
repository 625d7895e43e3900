-- A member joins.
use Rattle.std.proofs.Common.{◌≡◌, ℕ, ◌+◌, ◌<◌, ◌≤◌, Bool, true, false, cond, List, [], ◌∷◌, ◌++◌, length, Some, None, refl, sym, ap, ◌∙◌, arith, map}
use Rattle.std.specs.Prelude.{◌==◌, ◌&&◌, not, nat_le, count_by}
use Rattle.std.proofs.lemmas.Bool.Decides.{nat_tests}
use Rattle.floor_queue.specs.declared.request.Request.{Request}
use Rattle.floor_queue.specs.Order.{settle}
use Rattle.floor_wire.specs.Message.{IsMessage}
use Rattle.floor_config.specs.Lookup.{is_user}
use Rattle.floor_machine.specs.declared.machine.Refusal.TheVariants.{Broken, Ended, NoMember, NoUser, Full, Cut, BadCount}
use Rattle.floor_machine.specs.declared.member.Member.{Member}
use Rattle.floor_machine.specs.Conference.{Conference, backlog, is_cut, is_live, is_numbered_from, joining}
use Rattle.floor_machine.specs.declared.event.Event.TheVariants.{Join, Message, Took, Say}
use Rattle.floor_machine.specs.Shown.{entry_of}
use Rattle.floor_machine.specs.Change.{change, shown, settled, IsLawful}
use Rattle.floor_machine.specs.Machine.{Machine, is_backlog, join_refusal, message_refusal, say_refusal, took_refusal}
use Rattle.floor_machine.proofs.Entries.{ongoing_of-entries, ongoing_of-settled}
use Rattle.floor_machine.proofs.Found.{and_left, and_right}

-- a join adds its member to a settled conference, and changes nothing else
pub settled-join : (s : Conference) (user : ℕ) → settle s.config.floors s.ongoing ≡ s.ongoing →
    record s { members = s.members ++ joining (length s.members + 1) user ∷ [] } ≡ settled s (Join user)
unfolding settled shown change
settled-join s user is_settled =
    ap (λ (rs : List Request). record s { ongoing = rs; members = s.members ++ joining (length s.members + 1) user ∷ [] })
    (sym (ongoing_of-settled s.config.floors (map entry_of s.ongoing) ∙ ap (settle s.config.floors) (ongoing_of-entries s.ongoing) ∙ is_settled))

and_both : (a b : Bool) → a ≡ true → b ≡ true → (a && b) ≡ true
and_both true b h k = k
and_both false b h k = h

-- the members stay numbered
pub numbered-push : (k : ℕ) (members : List Member) (m : Member) → m.n ≡ length members + k → is_numbered_from k members ≡ true → is_numbered_from k (members ++ m ∷ []) ≡ true
numbered-push k [] m same h = and_both (m.n == k) true (by m.n k same) refl
  where
    by : (a k : ℕ) → a ≡ 0 + k → (a == k) ≡ true
    by a k e = grind (arith, nat_tests)
numbered-push k (x ∷ members) m same h =
    and_both (x.n == k) (is_numbered_from (k + 1) (members ++ m ∷ [])) (and_left _ _ h) (numbered-push (k + 1) members m (omega (arith, same)) (and_right _ _ h))

-- where no refusal applies, the event is lawful
pub message_lawful : (m : Machine) (n : ℕ) (bytes : List ℕ) → None ≡ message_refusal m n → IsMessage bytes → IsLawful m.conference (Message n bytes)
message_lawful m n bytes h whole = by m.is_broken m.conference.is_open (is_live m.conference n) (is_cut m.conference n) h
  where
    by : (a b d f : Bool) → None ≡ cond a (Some Broken) (cond (not b) (Some Ended) (cond (not d) (Some NoMember) (cond f (Some Cut) None))) →
        (b ≡ true) × (d ≡ true) × (f ≡ false) × IsMessage bytes
    by true b d f h = cc
    by false false d f h = cc
    by false true false f h = cc
    by false true true true h = cc
    by false true true false h = (refl, refl, refl, whole)

pub say_lawful : (m : Machine) (user : ℕ) (bytes : List ℕ) → None ≡ say_refusal m user → IsMessage bytes → IsLawful m.conference (Say user bytes)
say_lawful m user bytes h whole = by m.is_broken m.conference.is_open (is_user m.conference.config user) h
  where
    by : (a b d : Bool) → None ≡ cond a (Some Broken) (cond (not b) (Some Ended) (cond (not d) (Some NoUser) None)) → (b ≡ true) × (d ≡ true) × IsMessage bytes
    by true b d h = cc
    by false false d h = cc
    by false true false h = cc
    by false true true h = (refl, refl, whole)

pub took_lawful : (m : Machine) (n k : ℕ) → None ≡ took_refusal m n k → IsLawful m.conference (Took n k)
took_lawful m n k h = by m.is_broken m.conference.is_open (is_live m.conference n) (is_backlog m.conference n k) refl h
  where
    least : (a b : ℕ) → true ≡ (nat_le 1 a && nat_le a b) → 1 ≤ a
    least a b e = grind (arith, nat_tests)

    most : (a b : ℕ) → true ≡ (nat_le 1 a && nat_le a b) → a ≤ b
    most a b e = grind (arith, nat_tests)

    by : (a b d f : Bool) → f ≡ is_backlog m.conference n k →
        None ≡ cond a (Some Broken) (cond (not b) (Some Ended) (cond (not d) (Some NoMember) (cond (not f) (Some BadCount) None))) →
        (b ≡ true) × (d ≡ true) × (1 ≤ k) × (k ≤ backlog m.conference n)
    by true b d f e h = cc
    by false false d f e h = cc
    by false true false f e h = cc
    by false true true false e h = cc
    by false true true true e h = (refl, refl, least k (backlog m.conference n) e, most k (backlog m.conference n) e)

pub join_lawful : (m : Machine) (user : ℕ) → None ≡ join_refusal m user → IsLawful m.conference (Join user)
join_lawful m user h = by m.is_broken m.conference.is_open (is_user m.conference.config user) (nat_le 64 (count_by (λ m. m.is_live) m.conference.members)) refl h
  where
    few : (n : ℕ) → false ≡ nat_le 64 n → n < 64
    few n e = grind (arith, nat_tests)

    by : (a b d f : Bool) → f ≡ nat_le 64 (count_by (λ m. m.is_live) m.conference.members) →
        None ≡ cond a (Some Broken) (cond (not b) (Some Ended) (cond (not d) (Some NoUser) (cond f (Some Full) None))) →
        (b ≡ true) × (d ≡ true) × (count_by (λ m. m.is_live) m.conference.members < 64)
    by true b d f e h = cc
    by false false d f e h = cc
    by false true false f e h = cc
    by false true true true e h = cc
    by false true true false e h = (refl, refl, few _ e)
