-- Messages that are served one after another.
use Rattle.std.proofs.Common.{◌≡◌, ◌<◌, ◌+◌, ℕ, true, sym, subst, refl, ◌∙◌, add-one, inl, inr}
use Rattle.std.specs.Prelude.{Result, Ok}
use Rattle.floor_hub.specs.Hub.{Hub}
use Rattle.floor_hub.specs.declared.refusal.HubRefusal.{HubRefusal}
use Rattle.floor_hub.specs.declared.step.Served.{Served}
use Rattle.floor_ffi.specs.Called.{Serving}
use Rattle.floor_ffi.specs.Gives.{ServeEnds, ServeGives, ServesOwn, is_own}
use Rattle.floor_ffi.specs.Numbers.{number_of}
use Rattle.floor_ffi.specs.declared.outcome.Outcome.TheVariants.{Done}

-- one more message was served
pub serves-more : (connection k : ℕ) (old mid new : Hub) → ServesOwn connection k old mid → Serving connection mid new (Ok Served.Message) → is_own connection new.concerned ≡ true → ServesOwn connection (k + 1) old new
serves-more connection k old mid new before serving own = subst (λ (n : ℕ). ServesOwn connection n old new) (sym (add-one k)) (mid, before, serving, own)

-- serving ends by a call of the hub
pub serves-until : (connection k most : ℕ) (old mid new : Hub) (r : Result Served HubRefusal) (number served : ℕ) → ServesOwn connection k old mid → k < most → Serving connection mid new r →
    ServeEnds connection k new number served r → ServeGives old connection most new number served
serves-until connection k most old mid new r number served before less serving ends = record { own = k; before = mid; serves = before; next = inr (less, (r, serving, ends)) }

-- serving ends behind as many as are asked for
pub serves-most : (connection k most : ℕ) (old new : Hub) (number served : ℕ) → ServesOwn connection k old new → k ≡ most → number ≡ number_of Done → served ≡ most →
    ServeGives old connection most new number served
serves-most connection k most old new number served before all done count = record { own = k; before = new; serves = before; next = inl (all, refl, done, count ∙ sym all) }
