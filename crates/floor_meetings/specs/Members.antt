-- Which member is in which slot.
use Rattle.std.specs.Prelude.{◌≡◌, ℕ, List, Option, None, Some, nat_eq, slice_index_or}
use Rattle.std.specs.Map.{lookup}
use Rattle.floor_meetings.specs.declared.members.Member.{Member}

-- what stands in the slots; the slot of each member by its connection's number; and for how many numbers more there is room
pub record Members : Type 0 where
  pub slots : List (Option Member)
  pub numbers : List (ℕ × ℕ)
  pub room : ℕ

-- the member in the slot
abbrev pub member_in : Members → ℕ → Option Member
member_in ms slot = slice_index_or ms.slots slot None

-- the slot of the member with this number
abbrev pub slot_of : Members → ℕ → Option ℕ
slot_of ms number = lookup (nat_eq number) ms.numbers

-- Each member stands under its number, in its slot and in no other; and so under each number.
pub record IsPaired (ms : Members) : Type 0 where
  pub named : (slot : ℕ) (m : Member) → member_in ms slot ≡ Some m → slot_of ms m.number ≡ Some slot
  pub there : (number slot : ℕ) → slot_of ms number ≡ Some slot → (m : Member) × (member_in ms slot ≡ Some m) × (m.number ≡ number)
