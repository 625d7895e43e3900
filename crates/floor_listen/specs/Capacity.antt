-- The places of a server of one port.
use Rattle.std.specs.Prelude.{ℕ}

-- how many connections there may be at once, and how many there are
pub record Capacity : Type 0 where
  pub most : ℕ
  pub taken : ℕ
