-- The conferences of a server, by their numbers.
use Rattle.std.specs.Prelude.{ℕ, ◌==◌, Bool, List}
use Rattle.std.specs.List.{list_any}

-- a conference was opened under the number
abbrev pub is_opened : List ℕ → ℕ → Bool
is_opened opened conference = list_any (λ c. c == conference) opened
