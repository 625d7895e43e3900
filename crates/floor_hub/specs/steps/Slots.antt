-- How connections stand in their slots, and how one is changed there.
use Rattle.std.specs.Prelude.{◌≡◌, ℕ, true, Option, Some, None, is_some, slice_set}
use Rattle.floor_hub.specs.declared.connection.Connection.{Connection}
use Rattle.floor_hub.specs.Connections.{Connections, key_of, slot_of}

-- Each number has a slot of its own, and something stands in it; and what stands in a slot has a number, so that no slot is taken for nobody.
pub record IsSlotted (cs : Connections) : Type 0 where
  pub filled : (number key : ℕ) → key_of cs number ≡ Some key → is_some (slot_of cs key) ≡ true
  pub apart : (number other key : ℕ) → key_of cs number ≡ Some key → key_of cs other ≡ Some key → number ≡ other
  pub numbered : (key : ℕ) → is_some (slot_of cs key) ≡ true → (number : ℕ) × (key_of cs number ≡ Some key)

abbrev pub with_slot : Connections → Option ℕ → Connection → Connections
with_slot cs None x = cs
with_slot cs (Some key) x = record { numbers = cs.numbers; slots = slice_set cs.slots key (Some x) }

-- the connections with another one in the slot of this number
abbrev pub with_connection : Connections → ℕ → Connection → Connections
with_connection cs number x = with_slot cs (key_of cs number) x
