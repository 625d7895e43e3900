-- What clauses see of the two ends of an outbox, and of an outbox whose ends were joined.
use Rattle.std.specs.Prelude.{ℕ, List}
use Rattle.floor_machine.specs.Parcel.{Parcel}

-- which pair an end belongs to
abbrev pub PairId : Type 0
PairId = ℕ × ℕ

-- the end that puts: its pair, and what it put, in order
pub record Sender : Type 0 where
  pub pair : PairId
  pub put : List Parcel

-- the end that takes: its pair, and what it took, in order
pub record Taker : Type 0 where
  pub pair : PairId
  pub taken : List Parcel

-- both ends: what was put, what was taken, and what the queue holds, from front to back
pub record Outbox : Type 0 where
  pub put : List Parcel
  pub taken : List Parcel
  pub held : List Parcel
