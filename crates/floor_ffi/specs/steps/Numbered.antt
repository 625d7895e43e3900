-- The outcome that has a number.
use Rattle.std.specs.Prelude.{ℕ, List, Option, nat_eq}
use Rattle.std.specs.List.{find}
use Rattle.floor_ffi.specs.Numbers.{number_of}
use Rattle.floor_ffi.specs.declared.outcome.Outcome.{Outcome}

-- the first of these outcomes that has the number
abbrev pub find_numbered : ℕ → List Outcome → Option Outcome
find_numbered number outcomes = find (λ o. nat_eq (number_of o) number) outcomes
