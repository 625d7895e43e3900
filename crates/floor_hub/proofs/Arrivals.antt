-- The arrivals of a part, one of which is changed.
use Rattle.std.proofs.Common.{◌≡◌, ◌≢◌, ◌⊎◌, inl, inr, ℕ, zero, suc, ◌<◌, ◌≤◌, Bool, true, false, List, length, refl, sym, ◌∙◌, ap, arith, Some, None, get_or-set_other, get_or-set_same}
use Rattle.std.specs.Prelude.{Option, slice_get, slice_set}
use Rattle.std.proofs.lemmas.Option.{none-some, slice_get-get_or, slice_get_past, slice_get_within}
use Rattle.std.proofs.lemmas.List.{length-set}
use Rattle.floor_hub.specs.World.{Part, Arrival, arrival, if_live, with_arrival}

pub lt_or_le : (m n : ℕ) → (m < n) ⊎ (n ≤ m)
lt_or_le m zero = inr (omega arith)
lt_or_le zero (suc n) = inl (omega arith)
lt_or_le (suc m) (suc n) = elim (lt_or_le m n) [ inl h ↦ inl (omega (arith, h)) | inr h ↦ inr (omega (arith, h)) ]

get_set_other : (xs : List Arrival) (i j : ℕ) (a : Arrival) → j ≢ i → slice_get (slice_set xs i a) j ≡ slice_get xs j
get_set_other xs i j a ne = elim (lt_or_le j (length xs)) [
  | inl h ↦
      let within : j < length (slice_set xs i a) = omega (arith, h, length-set xs i a) in
      slice_get-get_or (slice_set xs i a) j a within ∙ ap Some (rw get_or-set_other refl) ∙ sym (slice_get-get_or xs j a h)
  | inr h ↦
      let past : length (slice_set xs i a) ≤ j = omega (arith, h, length-set xs i a) in
      slice_get_past (slice_set xs i a) j past ∙ sym (slice_get_past xs j h)
]

get_set_same : (xs : List Arrival) (i : ℕ) (a : Arrival) → i < length xs → slice_get (slice_set xs i a) i ≡ Some a
get_set_same xs i a h =
    let within : i < length (slice_set xs i a) = omega (arith, h, length-set xs i a) in
    slice_get-get_or (slice_set xs i a) i a within ∙ ap Some (rw get_or-set_same refl)

-- an arrival that is changed is as it was made
pub arrival_set : (part : Part) (n : ℕ) (a b : Arrival) → arrival part n ≡ Some b → arrival (with_arrival part n a) n ≡ Some a
arrival_set part zero a b e = absurd (none-some b e)
arrival_set part (suc j) a b e = get_set_same part.arrivals j a (slice_get_within part.arrivals j b e)

-- any other is as it was
pub arrival_set_other : (part : Part) (n m : ℕ) (a : Arrival) → m ≢ n → arrival (with_arrival part n a) m ≡ arrival part m
arrival_set_other part n zero a ne = refl
arrival_set_other part zero (suc j) a ne = refl
arrival_set_other part (suc i) (suc j) a ne = get_set_other part.arrivals i j a (λ e. ne (ap suc e))

abbrev is_live : Option Arrival → Bool
is_live None = false
is_live (Some a) = a.live

live_when : (b a : Arrival) (live : Bool) → b.live ≡ live → if_live (Some b) ≡ Some a → (◌≡◌ {A = Option Arrival} (Some b) (Some a)) × (a.live ≡ true)
live_when b a true h e =
    let kept : if_live (Some b) ≡ Some b = rw h refl in
    let same : ◌≡◌ {A = Option Arrival} (Some b) (Some a) = sym kept ∙ e in
    (same, sym (ap is_live same) ∙ h)
live_when b a false h e = let gone : if_live (Some b) ≡ None = rw h refl in absurd (none-some a (sym gone ∙ e))

-- a live arrival is there
pub live_there : (x : Option Arrival) (a : Arrival) → if_live x ≡ Some a → (x ≡ Some a) × (a.live ≡ true)
live_there None a e = absurd (none-some a e)
live_there (Some b) a e = live_when b a b.live refl e

-- an arrival that is there and live is live
pub there_live : (x : Option Arrival) (a : Arrival) → x ≡ Some a → a.live ≡ true → if_live x ≡ Some a
there_live x a e live = ap if_live e ∙ rw live refl
