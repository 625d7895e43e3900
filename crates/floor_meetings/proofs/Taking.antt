-- What is lent, and what of it is taken.
use Rattle.std.proofs.Common.{◌≡◌, ◌≤◌, ℕ, zero, suc, List, [], ◌∷◌, length, take, refl, ap, arith}

short : (k : ℕ) (bytes : List ℕ) → length (take k bytes) ≤ length bytes
short zero bytes = omega arith
short (suc k) [] = omega arith
short (suc k) (b ∷ bs) = let t = short k bs in omega (arith, t)

pub within : (k count : ℕ) (bytes : List ℕ) → count ≤ length (take k bytes) → count ≤ length bytes
within k count bytes le = let t = short k bytes in omega (arith, t, le)

pub cut : (k count : ℕ) (bytes : List ℕ) → count ≤ length (take k bytes) → take count (take k bytes) ≡ take count bytes
cut k zero bytes le = refl
cut zero (suc count) bytes le = absurd (omega (arith, le))
cut (suc k) (suc count) [] le = absurd (omega (arith, le))
cut (suc k) (suc count) (b ∷ bs) le = ap (λ (l : List ℕ). b ∷ l) (cut k count bs (omega (arith, le)))
