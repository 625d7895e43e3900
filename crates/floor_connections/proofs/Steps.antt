-- Calls of the table of sockets, one behind another.
use Rattle.std.proofs.Common.{◌≡◌, ℕ, Bool, true, false, List, [], ◌∷◌, ◌++◌, refl, sym, ap, ◌∙◌, subst}
use Rattle.std.specs.Prelude.{◌||◌, Option}
use Rattle.floor_sockets.specs.declared.life.Deed.{Deed}
use Rattle.floor_sockets.specs.Sockets.{Sockets}
use Rattle.floor_sockets.specs.Laws.{given, have_shut, is_shut}
use Rattle.floor_sockets.specs.Runs.{Call, Calls, Does, Next}
use Rattle.floor_connections.specs.Steps.{Steps, StepsBy, nobody}

lead_then : (late early : List Call) (a b c : Sockets) → Calls early a b → Calls late b c → Calls (late ++ early) a c
lead_then [] early a b c first same = subst (λ (s : Sockets). Calls early a s) (sym same) first
lead_then (d ∷ late) early a b c first next = (next.0, lead_then late early a b next.0 first next.1, next.2)

-- where nobody's Shut was given before, that of whom it was given later
shut_then : (slot : ℕ) (late early : List Call) → have_shut slot early ≡ false → have_shut slot (late ++ early) ≡ have_shut slot late
shut_then slot [] early none = none
shut_then slot (d ∷ late) early none = ap (λ (b : Bool). is_shut slot (given d) || b) (shut_then slot late early none)

-- none
pub steps_same : (old new : Sockets) → new ≡ old → Steps old new
steps_same old new same = record { calls = []; lead = same; shut = λ slot. refl }

-- one
pub steps_by : (call : Call) (old new : Sockets) → ((slot : ℕ) → is_shut slot (given call) ≡ false) → Does call old new → Steps old new
steps_by call old new none does = record { calls = call ∷ []; lead = (old, refl, does); shut = λ slot. ap (λ (b : Bool). b || false) (none slot) }

-- those, and then these
pub steps_with : (shuts : ℕ → Bool) (a b c : Sockets) → Steps a b → StepsBy shuts b c → StepsBy shuts a c
steps_with shuts a b c first next = record {
  calls = next.calls ++ first.calls;
  lead = lead_then next.calls first.calls a b c first.lead next.lead;
  shut = λ slot. shut_then slot next.calls first.calls (first.shut slot) ∙ next.shut slot;
}

pub steps_then : (a b c : Sockets) → Steps a b → Steps b c → Steps a c
steps_then = steps_with nobody

-- those, and then one more
pub steps_more : (call : Call) (a b c : Sockets) → ((slot : ℕ) → is_shut slot (given call) ≡ false) → Steps a b → Does call b c → Steps a c
steps_more call a b c none first does = steps_then a b c first (steps_by call b c none does)

or_false : (b : Bool) → b ≡ (b || false)
or_false true = refl
or_false false = refl

or_swap : (a e l : Bool) → (a || (e || l)) ≡ (e || (a || l))
or_swap true true l = refl
or_swap true false l = refl
or_swap false e l = refl

shut_both : (slot : ℕ) (late early : List Call) → have_shut slot (late ++ early) ≡ (have_shut slot early || have_shut slot late)
shut_both slot [] early = or_false (have_shut slot early)
shut_both slot (d ∷ late) early = ap (λ (b : Bool). is_shut slot (given d) || b) (shut_both slot late early) ∙ or_swap (is_shut slot (given d)) (have_shut slot early) (have_shut slot late)

or_both : (a b f g : Bool) → a ≡ f → b ≡ g → (a || b) ≡ (f || g)
or_both a b f g e h = ap (λ (x : Bool). x || b) e ∙ ap (λ (x : Bool). f || x) h

-- some Shuts are given by those, and others by these
pub steps_both : (f g : ℕ → Bool) (a b c : Sockets) → StepsBy f a b → StepsBy g b c → StepsBy (λ slot. f slot || g slot) a c
steps_both f g a b c first next = record {
  calls = next.calls ++ first.calls;
  lead = lead_then next.calls first.calls a b c first.lead next.lead;
  shut = λ slot. shut_both slot next.calls first.calls ∙ or_both (have_shut slot first.calls) (have_shut slot next.calls) (f slot) (g slot) (first.shut slot) (next.shut slot);
}

-- what a turn gives to be done, and what is done then
pub steps_given : (deed : Option Deed) (a b c d : Sockets) → Steps a b → Does (Next deed) b c → Steps c d → StepsBy (λ slot. is_shut slot deed) a d
steps_given deed a b c d first does next =
    let turn : StepsBy (λ slot. is_shut slot deed) b c = record { calls = Next deed ∷ []; lead = (b, refl, does); shut = λ slot. sym (or_false (is_shut slot deed)) } in
    let late : StepsBy (λ slot. is_shut slot deed || false) b d = steps_both (λ slot. is_shut slot deed) nobody b c d turn next in
    steps_with (λ slot. is_shut slot deed) a b d first (record { calls = late.calls; lead = late.lead; shut = λ slot. late.shut slot ∙ sym (or_false (is_shut slot deed)) })
