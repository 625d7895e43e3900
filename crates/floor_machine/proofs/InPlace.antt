-- A floor request is shown as it is now where its statuses alone are put in the stead of the old ones.
use Rattle.std.proofs.Common.{◌≡◌, ℕ, Bool, true, false, true≢false, List, [], Option, Some, None, map, sym, refl, ap, ◌∙◌}
use Rattle.std.specs.Prelude.{◌↔◌, IfOk, IsTrue, IsSomeAnd, OnOk, Result, Ok, Err, fold, max, not}
use Rattle.floor_config.specs.Configuration.{Configuration}
use Rattle.floor_queue.specs.declared.request.Request.{Request}
use Rattle.floor_message.specs.Status.{status_number}
use Rattle.floor_message.specs.declared.information.Info.{Info}
use Rattle.floor_machine.specs.Same.{same_info}
use Rattle.floor_machine.specs.Shown.{entry_of, floor_shown, info, overall_status}
use Rattle.floor_machine.specs.steps.Renewing.{differs}
use Rattle.floor_machine.specs.steps.Telling.{info_with, position_shown}
use Rattle.floor_machine.proofs.SameInfo.{info_equal}
use Rattle.floor_machine.proofs.Shows.{info_with-ongoing}

-- the old info, with the statuses of now
pub now-shown : (config : Configuration) (ongoing : List Request) (r : Request) (old : Info) (s g : ℕ) (fs : List (ℕ × Option (ℕ × ℕ))) →
    old ≡ record (info_with config r 0 []) { overall = old.overall; floors = old.floors } → s ≡ status_number (overall_status (entry_of r)) → g ≡ fold max 0 (map position_shown fs) →
    fs ≡ map (floor_shown config.floors ongoing (entry_of r)) r.floors → record old { overall = Some (s, g); floors = fs } ≡ info config ongoing r
now-shown config ongoing r old s g fs described status greatest shown =
    ap (λ (x : Info). record x { overall = Some (s, g); floors = fs }) described
    ∙ ap (λ (n : ℕ). record (info_with config r 0 []) { overall = Some (s, n); floors = fs }) greatest
    ∙ ap (λ (n : ℕ). info_with config r n fs) status
    ∙ ap (λ (gs : List (ℕ × Option (ℕ × ℕ))). info_with config r (status_number (overall_status (entry_of r))) gs) shown
    ∙ info_with-ongoing config ongoing r

-- an info that has the statuses already stays
pub stays-shown : (old : Info) (o : ℕ × ℕ) (fs : List (ℕ × Option (ℕ × ℕ))) → old.overall ≡ Some o → old.floors ≡ fs → old ≡ record old { overall = Some o; floors = fs }
stays-shown old o fs overall floors =
    ap (λ (x : Option (ℕ × ℕ)). record old { overall = x }) overall ∙ ap (λ (x : List (ℕ × Option (ℕ × ℕ))). record old { overall = Some o; floors = x }) floors

-- one that hasn't is shown otherwise
pub shown-otherwise : (answer : Bool) (old new : Info) (o : ℕ × ℕ) (fs : List (ℕ × Option (ℕ × ℕ))) → IsTrue answer ↔ ((old.overall ≡ Some o) × (old.floors ≡ fs)) → answer ≡ false →
    new ≡ record old { overall = Some o; floors = fs } → differs (Some old) new ≡ true
shown-otherwise answer old new o fs h fails put = by (same_info old new) refl
  where
    by : (b : Bool) → same_info old new ≡ b → not b ≡ true
    by true e =
        let same : old ≡ record old { overall = Some o; floors = fs } = info_equal old new e ∙ put in
        absurd (true≢false (sym (h.1 (ap (λ (x : Info). x.overall) same, ap (λ (x : Info). x.floors) same)) ∙ fails))
    by false e = refl

-- what a call gives, by what else holds where it does
pub if_ok_on : {T E P : Type 0} {Q R : T → Type 0} (r : Result T E) → ((x : T) → P → Q x → R x) → OnOk r P → IfOk r Q → IfOk r R
if_ok_on (Ok x) f p q = f x p q
if_ok_on (Err e) f p q = tt

-- there is a value of which it holds
pub record IsThere {A : Type 0} (o : Option A) (P : A → Type 0) : Type 0 where
  pub value : A
  pub is : o ≡ Some value
  pub holds : P value

pub there : {A : Type 0} (o : Option A) (P : A → Type 0) → IsSomeAnd o P → IsThere o P
there None P h = absurd h
there (Some x) P h = record { value = x; is = refl; holds = h }
