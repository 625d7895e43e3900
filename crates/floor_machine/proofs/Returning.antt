-- A leave beside another connection of the same user.
use Rattle.std.proofs.Common.{◌≡◌, ◌≢◌, ◌⊎◌, inl, inr, ℕ, Bool, true, false, cond, List, [], ◌∷◌, map, Option, Some, None, refl, sym, ap, subst, ◌∙◌, arith}
use Rattle.std.specs.Prelude.{◌==◌, ◌&&◌, ◌||◌, is_some}
use Rattle.std.specs.Option.{option_map_or}
use Rattle.std.proofs.lemmas.Bool.Decides.{nat_tests}
use Rattle.floor_queue.specs.Order.{settle}
use Rattle.floor_queue.specs.declared.request.Request.{Request}
use Rattle.floor_machine.specs.Change.{Change, change, leaving, settled}
use Rattle.floor_machine.specs.Conference.{Conference, is_present, member_with, user_of}
use Rattle.floor_machine.specs.declared.event.Event.TheVariants.{Leave}
use Rattle.floor_machine.specs.declared.member.Member.{Member}
use Rattle.floor_machine.specs.Next.{next}
use Rattle.floor_machine.specs.Returning.{IsBeside, LeaveEndsNothing}
use Rattle.floor_machine.specs.Shown.{Entry, entry_of, ongoing_of}
use Rattle.floor_machine.proofs.Found.{and_left, and_right}
use Rattle.floor_machine.proofs.Left.{change-leave, entry_without, none-without}

same_number : (a b : ℕ) → (a == b) ≡ true → a ≡ b
same_number a b e = grind (arith, nat_tests)

other_number : (a k n : ℕ) → (a == k) ≡ true → k ≢ n → (a == n) ≡ false
other_number a k n e ne = grind (arith, nat_tests)

own_number : (a b : ℕ) → a ≡ b → (a == b) ≡ true
own_number a b e = grind (arith, nat_tests)

or_right : (a b : Bool) → b ≡ true → (a || b) ≡ true
or_right true b e = refl
or_right false b e = e

-- the other connection's user is present still
present-other : (ms : List Member) (k n user : ℕ) → k ≢ n → is_some (member_with ms k) ≡ true → option_map_or (λ m. m.user) (member_with ms k) 0 ≡ user → is_present (map (leaving n) ms) user ≡ true
present-other [] k n user ne live is = absurd cc
present-other (m ∷ ms) k n user ne live is = by (m.n == k && m.is_live) refl (present-other ms k n user ne) live is
  where
    here : (m.n == k && m.is_live) ≡ true → m.user ≡ user → is_present (map (leaving n) (m ∷ ms)) user ≡ true
    here e u =
        let apart : (m.n == n) ≡ false = other_number m.n k n (and_left (m.n == k) m.is_live e) ne in
        let same : leaving n m ≡ m = ap (λ (b : Bool). cond b (record m { is_live = false }) m) apart in
        ap (λ (x : Member). is_present (x ∷ map (leaving n) ms) user) same
        ∙ ap (λ (b : Bool). (b && m.is_live) || is_present (map (leaving n) ms) user) (own_number m.user user u)
        ∙ ap (λ (b : Bool). b || is_present (map (leaving n) ms) user) (and_right (m.n == k) m.is_live e)

    by : (b : Bool) → (m.n == k && m.is_live) ≡ b → (is_some (member_with ms k) ≡ true → option_map_or (λ x. x.user) (member_with ms k) 0 ≡ user → is_present (map (leaving n) ms) user ≡ true) →
        is_some (cond b (Some m) (member_with ms k)) ≡ true → option_map_or (λ x. x.user) (cond b (Some m) (member_with ms k)) 0 ≡ user → is_present (map (leaving n) (m ∷ ms)) user ≡ true
    by true e rec l u = here e u
    by false e rec l u = or_right ((leaving n m).user == user && (leaving n m).is_live) (is_present (map (leaving n) ms) user) (rec l u)

pub leave-ends-nothing : LeaveEndsNothing
leave-ends-nothing s k n b =
    let user : ℕ = user_of s n in
    ap (λ (c : Change). c.entries) (change-leave s n)
    ∙ ap (λ (x : Bool). map (entry_without user x) s.ongoing) (present-other s.members k n user b.other b.live b.user)
    ∙ none-without user s.ongoing

-- a leave leaves the floors
pub floors-left : (s : Conference) (n : ℕ) → (next s (Leave n)).config.floors ≡ s.config.floors
unfolding next settled change
floors-left s n = refl
