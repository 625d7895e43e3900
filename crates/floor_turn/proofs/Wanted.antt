-- When the time is wanted.
use Rattle.std.proofs.Common.{◌≡◌, ◌≤◌, ◌*◌, ℕ, List, [], Some, None, inl, inr, sym, ◌∙◌, subst, arith}
use Rattle.std.specs.Prelude.{◌⊎◌, All, Contains, IfNone, IfSome, Option, min}
use Rattle.std.proofs.lemmas.List.Elements.{All-nil}
use Rattle.floor_loop.specs.Loop.{over_at}
use Rattle.floor_sockets.specs.declared.deadlines.Deadline.{Deadline}
use Rattle.floor_turn.specs.declared.server.Server.{Server}
use Rattle.floor_turn.specs.Due.{IsDueAt, micros_of}

-- a deadline of these is so late
abbrev pub IsOf : List Deadline → ℕ → Type 0
IsOf ds time = (d : Deadline) × Contains ds d × (d.until ≡ time)

-- the earlier of the two is one of them
pub is_one : (s : Server) (r : Option ℕ) (t other millis number : ℕ) → IfSome r (IsOf s.connections.sockets.deadlines) → over_at s.meetings.hub number ≡ Some millis → other ≡ micros_of millis → ((t ≡ other) ⊎ (r ≡ Some t)) → IsDueAt s t
is_one s r t other millis number found is same (inl e) = inr (number, millis, is, e ∙ same)
is_one s r t other millis number found is same (inr e) = inl (subst (λ (o : Option ℕ). IfSome o (IsOf s.connections.sockets.deadlines)) e found)

pub is_a_deadline : (s : Server) (r : Option ℕ) → IfSome r (IsOf s.connections.sockets.deadlines) → IfSome r (IsDueAt s)
is_a_deadline s None found = tt
is_a_deadline s (Some t) found = inl found

-- no deadline is earlier
pub none_sooner : (ds : List Deadline) (r : Option ℕ) (t : ℕ) → IfSome r (λ u. All (λ d. u ≤ d.until) ds) → IfNone r (ds ≡ []) → IfSome r (λ u. t ≤ u) → All (λ d. t ≤ d.until) ds
none_sooner ds None t first none before = subst (λ (xs : List Deadline). All (λ d. t ≤ d.until) xs) (sym none) (All-nil (λ (d : Deadline). t ≤ d.until))
none_sooner ds (Some u) t first none before = λ k d lt. let h = first k d lt in omega arith

pub none_over : (t other millis until : ℕ) → t ≤ other → other ≡ min (millis * 1000) 18446744073709551615 → millis ≤ until → t ≤ until * 1000
none_over t other millis until within is first = omega arith

pub if_some : {A : Type 0} (o : Option A) (P : A → Type 0) → ((x : A) → P x) → IfSome o P
if_some None P h = tt
if_some (Some x) P h = h x
