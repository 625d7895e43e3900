-- Numbers of users and floors that aren't given.
use Rattle.std.specs.Prelude.{◌≡◌, ◌≤◌, ◌<◌, ◌==◌, ℕ, Bool, true, false, List}
use Rattle.std.specs.List.{list_any}

-- the number is one of these
abbrev pub is_used : List ℕ → ℕ → Bool
is_used used number = list_any (λ n. n == number) used

-- It is from 1 on, each lower one from 1 on is one of these, and it isn't, unless it is the greatest of 16 bits.
pub record IsLowestFree (used : List ℕ) (number : ℕ) : Type 0 where
  pub from : 1 ≤ number
  pub lower : (n : ℕ) → 1 ≤ n → n < number → is_used used n ≡ true
  pub free : number < 65535 → is_used used number ≡ false
