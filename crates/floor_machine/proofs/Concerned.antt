-- Whoever none of the changed requests concerns is told of none.
use Rattle.std.proofs.Common.{◌≡◌, ℕ, ◌+◌, Bool, true, false, true≢false, cond, List, [], ◌∷◌, ◌++◌, Option, refl, sym, ap, ◌∙◌, arith, zero-add}
use Rattle.std.specs.Prelude.{◌==◌, ◌&&◌, ◌||◌, if◌then◌else◌, count_by, filter, nat_lt, not}
use Rattle.std.specs.List.{list_any}
use Rattle.std.proofs.lemmas.Bool.{eqb-true}
use Rattle.std.proofs.lemmas.Bool.Decides.{nat_tests}
use Rattle.std.proofs.lemmas.List.Folds.{list_any-append}
use Rattle.std.proofs.lemmas.List.Sums.{sum_by-append, sum_by-cons}
use Rattle.floor_machine.specs.declared.member.Member.{Member}
use Rattle.floor_machine.specs.declared.replied.Replied.{Replied}
use Rattle.floor_machine.specs.declared.tell.changed.Update.{Update}
use Rattle.floor_machine.specs.steps.Telling.{AreOf, is_answered, is_due_to, is_of, noting}

-- the number is one of these
abbrev has : ℕ → List ℕ → Bool
has k users = list_any (λ u. u == k) users

-- how often it is one
abbrev times : ℕ → List ℕ → ℕ
times k users = count_by (λ u. u == k) users

-- 1 for what holds
abbrev one : Bool → ℕ
one b = if b then 1 else 0

times-cons : (k u : ℕ) (users : List ℕ) → times k (u ∷ users) ≡ one (u == k) + times k users
times-cons k u users = sum_by-cons (λ y. one (y == k)) u users

lt-more : (n : ℕ) → nat_lt 0 (1 + n) ≡ true
lt-more n = by (nat_lt 0 (1 + n)) refl
  where
    none : (m : ℕ) → nat_lt 0 (1 + m) ≡ false → ⊥
    none m e = grind (arith, nat_tests)

    by : (b : Bool) → nat_lt 0 (1 + n) ≡ b → b ≡ true
    by true e = refl
    by false e = absurd (none n e)

has-times : (k : ℕ) (users : List ℕ) → has k users ≡ nat_lt 0 (times k users)
has-times k [] = refl
has-times k (u ∷ users) = by (u == k) (has-times k users) ∙ ap (nat_lt 0) (sym (times-cons k u users))
  where
    by : (b : Bool) → has k users ≡ nat_lt 0 (times k users) → (b || has k users) ≡ nat_lt 0 (one b + times k users)
    by true e = sym (lt-more (times k users))
    by false e = e ∙ ap (nat_lt 0) (sym (zero-add (times k users)))

lt-one : (b : Bool) → nat_lt 0 (one b) ≡ b
lt-one true = refl
lt-one false = refl

-- these are the numbers that pass, each once
abbrev AreOnce : (ℕ → Bool) → List ℕ → Type 0
AreOnce p users = (k : ℕ) → times k users ≡ one (p k)

has-once : (p : ℕ → Bool) (users : List ℕ) → AreOnce p users → (k : ℕ) → has k users ≡ p k
has-once p users h k = has-times k users ∙ ap (nat_lt 0) (h k) ∙ lt-one (p k)

times-more : (k user : ℕ) (users : List ℕ) → times k (users ++ user ∷ []) ≡ times k users + one (user == k)
times-more k user users =
    let whole : times k (users ++ user ∷ []) ≡ times k users + times k (user ∷ []) = sum_by-append (λ y. one (y == k)) users (user ∷ []) in
    let last : times k (user ∷ []) ≡ one (user == k) + 0 = times-cons k user [] in
    omega (arith, whole, last)

-- with one number more noted, that one passes too
noted-once : (p : ℕ → Bool) (user : ℕ) (users : List ℕ) → AreOnce p users → AreOnce (λ k. p k || user == k) (noting user users)
noted-once p user users h k = by (has user users) refl
  where
    known : (b : Bool) → (user == k) ≡ b → p user ≡ true → one (p k) ≡ one (p k || b)
    known true e passes = ap one (ap p (sym (eqb-true user k e)) ∙ passes ∙ sym (or-true (p k)))
      where
        or-true : (a : Bool) → (a || true) ≡ true
        or-true true = refl
        or-true false = refl
    known false e passes = ap one (sym (or-false (p k)))
      where
        or-false : (a : Bool) → (a || false) ≡ a
        or-false true = refl
        or-false false = refl

    new : (b : Bool) → (user == k) ≡ b → p user ≡ false → one (p k) + one b ≡ one (p k || b)
    new true e fails = ap (λ (a : Bool). one a + 1) (ap p (sym (eqb-true user k e)) ∙ fails) ∙ sym (ap (λ (a : Bool). one (a || true)) (ap p (sym (eqb-true user k e)) ∙ fails))
    new false e fails = by_p (p k)
      where
        by_p : (a : Bool) → one a + 0 ≡ one (a || false)
        by_p true = refl
        by_p false = refl

    by : (b : Bool) → has user users ≡ b → times k (cond b users (users ++ user ∷ [])) ≡ one (p k || user == k)
    by true e = h k ∙ known (user == k) refl (sym (has-once p users h user) ∙ e)
    by false e = times-more k user users ∙ ap (λ (n : ℕ). n + one (user == k)) (h k) ∙ new (user == k) refl (sym (has-once p users h user) ∙ e)

-- one update more, with its users noted
pub of-more : (users : List ℕ) (us : List Update) (u : Update) → AreOf users us → AreOf (noting u.beneficiary (noting u.requester users)) (us ++ u ∷ [])
of-more users us u h k =
    noted-once (λ k. list_any (is_of k) us || u.requester == k) u.beneficiary (noting u.requester users) (noted-once (λ k. list_any (is_of k) us) u.requester users h) k
    ∙ ap one (by (list_any (is_of k) us) (u.requester == k) (u.beneficiary == k) ∙ sym (list_any-append (is_of k) us (u ∷ [])))
  where
    by : (a r b : Bool) → ((a || r) || b) ≡ (a || ((r || b) || false))
    by true r b = refl
    by false true b = refl
    by false false true = refl
    by false false false = refl

-- a user that isn't noted is one that none concerns
pub noted-of : (user : ℕ) (users : List ℕ) (us : List Update) → AreOf users us → has user users ≡ list_any (is_of user) us
noted-of user users us h = has-once (λ k. list_any (is_of k) us) users h user

-- whom none concerns none is due
pub none-due : (reply : Option Replied) (m : Member) (us : List Update) → list_any (is_of m.user) us ≡ false → filter (is_due_to reply m) us ≡ []
none-due reply m [] h = refl
none-due reply m (u ∷ us) h = by (is_of m.user u) h (λ e. none-due reply m us e)
  where
    by : (b : Bool) → (b || list_any (is_of m.user) us) ≡ false → (list_any (is_of m.user) us ≡ false → filter (is_due_to reply m) us ≡ []) →
        cond (b && not (is_answered reply m.n u.number)) (u ∷ filter (is_due_to reply m) us) (filter (is_due_to reply m) us) ≡ []
    by true h rest = absurd (true≢false h)
    by false h rest = rest h
