-- Numbers that stand twice in a list.
use Rattle.std.specs.Prelude.{◌≡◌, ◌≢◌, ◌↔◌, ℕ, ◌<◌, Bool, true, false, ◌||◌, ◌==◌, List, [], ◌∷◌, length, slice_index}
use Rattle.std.specs.List.{AllPairs, list_any}

-- no two of the numbers are equal
abbrev pub AllDiffer : List ℕ → Type 0
AllDiffer numbers = AllPairs (λ x y. x ≢ y) numbers

-- one number stands at two places
pub record StandsTwice (numbers : List ℕ) : Type 0 where
  pub first : ℕ
  pub second : ℕ
  pub apart : first < second
  pub within : second < length numbers
  pub same : slice_index numbers first ≡ slice_index numbers second

-- whether one of the numbers stands again behind its place
abbrev pub has_double : List ℕ → Bool
has_double [] = false
has_double (x ∷ xs) = list_any (λ y. x == y) xs || has_double xs

-- A double is found exactly where one number stands at two places, and none exactly where no two are equal.
pub record FindsDoubles (numbers : List ℕ) : Type 0 where
  pub found : (has_double numbers ≡ true) ↔ StandsTwice numbers
  pub none : (has_double numbers ≡ false) ↔ AllDiffer numbers
