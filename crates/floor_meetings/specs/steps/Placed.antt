-- How members come to slots and leave them.
use Rattle.std.specs.Prelude.{◌≡◌, ◌≤◌, ◌<◌, ℕ, false, None, Some, nat_eq, length}
use Rattle.floor_meetings.specs.Members.{Members, member_in, slot_of}

-- there is room for a member in this slot
abbrev pub HasRoom : ℕ → Members → Type 0
HasRoom slot ms = (slot < length ms.slots) × (1 ≤ ms.room)

-- the same members are in the same slots
pub record SameMembers (old new : Members) : Type 0 where
  pub slots : (slot : ℕ) → member_in new slot ≡ member_in old slot
  pub numbers : (number : ℕ) → slot_of new number ≡ slot_of old number

-- Whoever had this number is in no slot any more, each other is where it was, and there is as much room.
pub record IsGone (number : ℕ) (old new : Members) : Type 0 where
  pub gone : slot_of new number ≡ None
  pub numbers : (k : ℕ) → nat_eq number k ≡ false → slot_of new k ≡ slot_of old k
  pub here : (slot : ℕ) → slot_of old number ≡ Some slot → member_in new slot ≡ None
  pub others : (slot : ℕ) → (slot_of old number ≡ Some slot → ⊥) → member_in new slot ≡ member_in old slot
  pub room : (slot : ℕ) → HasRoom slot old → HasRoom slot new
