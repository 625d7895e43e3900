-- Numbers in ascending order, each once.
use Rattle.std.specs.Prelude.{ℕ, ◌==◌, nat_lt, Bool, true, ◌&&◌, if◌then◌else◌, List, [], ◌∷◌}
use Rattle.std.specs.List.{list_all, list_any}

-- the number is among these
abbrev pub is_in : ℕ → List ℕ → Bool
is_in k ns = list_any (λ n. n == k) ns

-- each number is below all later ones
abbrev pub ascend : List ℕ → Bool
ascend [] = true
ascend (n ∷ ns) = list_all (λ m. nat_lt n m) ns && ascend ns

-- the numbers with k before the first that isn't below it, unless that is k
abbrev pub with_number : ℕ → List ℕ → List ℕ
with_number k [] = k ∷ []
with_number k (n ∷ ns) = if nat_lt n k then n ∷ with_number k ns else (if n == k then n ∷ ns else k ∷ n ∷ ns)
