-- Deadlines, and for how many there is room.
use Rattle.std.specs.Prelude.{ℕ, List}
use Rattle.floor_sockets.specs.declared.deadlines.Deadline.{Deadline}

pub record Deadlines : Type 0 where
  pub items : List Deadline
  pub room : ℕ
