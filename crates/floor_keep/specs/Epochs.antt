-- The epoch of a folder: a number by which one server is fenced off from a folder that another one has now.
use Rattle.std.specs.Prelude.{◌≡◌, ◌⊎◌, ℕ, List, [], ◌∷◌, ◌++◌, Option, Some, None}
use Rattle.std.specs.Str.Parse.{IsNumeral, digits_value}

-- the bytes are a decimal number, digits alone, perhaps with a line feed behind it
pub record IsEpoch (bytes : List ℕ) (epoch : ℕ) : Type 0 where
  pub word : List ℕ
  pub parts : (bytes ≡ word) ⊎ (bytes ≡ word ++ 10 ∷ [])
  pub numeral : IsNumeral 10 word
  pub value : digits_value 10 word ≡ epoch

-- the epoch at the start is the one that it has to be, where that is said
abbrev pub IsFirst : Option ℕ → ℕ → Type 0
IsFirst None epoch = Unit {0}
IsFirst (Some wanted) epoch = epoch ≡ wanted
