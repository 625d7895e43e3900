-- What the fields of a session stand for.
use Rattle.std.specs.Prelude.{ℕ, ◌≤◌, Option, Some, None}
use Rattle.floor_datagram.specs.Pace as pace
use Rattle.floor_datagram.specs.declared.pace.Round.{Round}

abbrev pub round_of : Round → pace.Round
round_of r = record { smoothed = r.smoothed; variation = r.variation }

abbrev pub IsSmall : Option Round → Type 0
IsSmall None = Unit {0}
IsSmall (Some r) = (r.smoothed ≤ 60000) × (r.variation ≤ 60000)

abbrev pub IsBounded : Option Round → ℕ → Type 0
IsBounded round t1 = IsSmall round × (t1 ≤ 60000)
