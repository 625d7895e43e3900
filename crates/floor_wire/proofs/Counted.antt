-- The front of a count is a shorter count.
use Rattle.std.proofs.Common.{◌≡◌, ℕ, zero, suc, ◌≤◌, refl, ap, arith}
use Rattle.std.specs.Prelude.{◌∷◌, take}
use Rattle.floor_wire.specs.Held.{counted}

pub front_of_a_count : (n m from : ℕ) → n ≤ m → take n (counted m from) ≡ counted n from
unfolding counted
front_of_a_count zero m from h = refl
front_of_a_count (suc n) zero from h = absurd (omega (arith, h))
front_of_a_count (suc n) (suc m) from h = ap (λ l. from ∷ l) (front_of_a_count n m (suc from) (omega (arith, h)))
