-- What a socket took is no more than is to be written.
use Rattle.std.proofs.Common.{ℕ, zero, suc, ◌≤◌, List, [], ◌∷◌, length, take, arith}

pub short : (k : ℕ) (bytes : List ℕ) → length (take k bytes) ≤ length bytes
short zero bytes = omega arith
short (suc k) [] = omega arith
short (suc k) (b ∷ bs) = let t = short k bs in omega (arith, t)
