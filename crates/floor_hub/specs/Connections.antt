-- The live connections of a hub.
use Rattle.std.specs.Prelude.{◌≡◌, ℕ, List, nat_eq, false, Option, Some, None, slice_index_or}
use Rattle.std.specs.Map.{lookup}
use Rattle.floor_hub.specs.declared.connection.Connection.{Connection}

-- the slot of each number, and what stands in the slots; a slot that is free is used again
pub record Connections : Type 0 where
  pub numbers : List (ℕ × ℕ)
  pub slots : List (Option Connection)

-- what stands in the slot, if there is one
abbrev pub at_key : (ℕ → Option Connection) → Option ℕ → Option Connection
at_key slots None = None
at_key slots (Some key) = slots key

abbrev pub key_of : Connections → ℕ → Option ℕ
key_of cs number = lookup (nat_eq number) cs.numbers

abbrev pub slot_of : Connections → ℕ → Option Connection
slot_of cs key = slice_index_or cs.slots key None

-- the live connection with this number
abbrev pub connection_at : Connections → ℕ → Option Connection
connection_at cs number = at_key (slot_of cs) (key_of cs number)

-- the same connections under the same numbers
abbrev pub SameConnections : Connections → Connections → Type 0
SameConnections old new = (number : ℕ) → connection_at new number ≡ connection_at old number

-- under this number stands this now, and under each other what stood there
pub record Puts (old new : Connections) (number : ℕ) (x : Option Connection) : Type 0 where
  pub here : connection_at new number ≡ x
  pub others : (other : ℕ) → nat_eq number other ≡ false → connection_at new other ≡ connection_at old other

-- the same place in the same conference, or no connection both times
abbrev pub SamePlace : Option Connection → Option Connection → Type 0
SamePlace None None = Unit {0}
SamePlace None (Some y) = ⊥
SamePlace (Some x) None = ⊥
SamePlace (Some x) (Some y) = (y.conference ≡ x.conference) × (y.n ≡ x.n)

-- each live connection stays so, at its place, and no other comes
abbrev pub StayLive : Connections → Connections → Type 0
StayLive old new = (number : ℕ) → SamePlace (connection_at old number) (connection_at new number)
