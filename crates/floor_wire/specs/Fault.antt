-- The first fault of bytes that spell no attributes (RFC 8855, section 5.2).
use Rattle.std.specs.Prelude.{◌≡◌, ℕ, ◌+◌, ◌-◌, ◌/◌, ◌%◌, ◌<◌, Bool, not, ◌||◌, List, ◌++◌, length, slice_index, slice_range, Option, Some, None, nat_lt, if◌then◌else◌, ◌==◌}
use Rattle.floor_wire.specs.Attributes.{Attributes}
use Rattle.floor_wire.specs.Spelling.{format_of, Spells}
use Rattle.floor_wire.specs.declared.format.Format.{Format}
use Rattle.floor_wire.specs.declared.format.Format.TheVariants.{Unsigned16, OctetString16, Grouped, OctetString}
use Rattle.floor_wire.specs.declared.fault.Cause.{Cause}
use Rattle.floor_wire.specs.declared.fault.Cause.TheVariants.{BadLength, Overrun}
use Rattle.floor_wire.specs.declared.fault.WireFault.{WireFault}
use Rattle.floor_wire.specs.declared.fault.WireFault.TheVariants as faults

-- whether no attribute of this format has this Length
abbrev pub is_bad_length : Format → ℕ → Bool
is_bad_length Unsigned16 len = not (len == 4)
is_bad_length OctetString16 len = not (len == 4)
is_bad_length Grouped len = nat_lt len 4 || not (len % 4 == 0)
is_bad_length OctetString len = nat_lt len 2

-- the next multiple of 4
abbrev pub padded : ℕ → ℕ
padded len = len + (4 - len % 4) % 4

-- the type and the Length of the attribute at the front
abbrev pub front_kind : List ℕ → ℕ
front_kind bytes = slice_index bytes 0 / 2

abbrev pub front_len : List ℕ → ℕ
front_len bytes = slice_index bytes 1

-- What is wrong with the attribute at the front itself: its head or its padded contents pass the end, or its Length is bad.
abbrev pub front_fault : List ℕ → Option Cause
front_fault bytes =
    if nat_lt (length bytes) 2 then Some Overrun
    else if is_bad_length (format_of (front_kind bytes)) (front_len bytes) then Some BadLength
    else if nat_lt (length bytes) (padded (front_len bytes)) then Some Overrun
    else None

-- The bytes begin with attributes, and then another begins.
pub record Begins (bytes : List ℕ) (attrs : Attributes) (front tail : List ℕ) : Type 0 where
  pub whole : bytes ≡ front ++ tail
  pub spelled : Spells attrs front
  pub more : 0 < length tail

-- The first fault, from left to right, with its place: that of an attribute itself, or of one inside a group that has none itself.
pub data HasFault : List ℕ → ℕ → Cause → Type 0 where
  itself : {bytes front tail : List ℕ} {attrs : Attributes} {at : ℕ} {cause : Cause}
      → Begins bytes attrs front tail → front_fault tail ≡ Some cause → at ≡ length front → HasFault bytes at cause
  inside : {bytes front tail : List ℕ} {attrs : Attributes} {at within : ℕ} {cause : Cause}
      → Begins bytes attrs front tail → front_fault tail ≡ None → format_of (front_kind tail) ≡ Grouped
      → HasFault (slice_range tail 4 (front_len tail)) within cause → at ≡ length front + 4 + within → HasFault bytes at cause

-- the fault that is told of bytes that stand from this place on, unless memory ran out
abbrev pub IsFaultFrom : ℕ → List ℕ → WireFault → Type 0
IsFaultFrom base bytes faults.Memory = Unit {0}
IsFaultFrom base bytes (faults.BadLength place) = (at : ℕ) × (place ≡ base + at) × HasFault bytes at BadLength
IsFaultFrom base bytes (faults.Overrun place) = (at : ℕ) × (place ≡ base + at) × HasFault bytes at Overrun

-- how a fault is told
abbrev pub fault_at_place : Cause → ℕ → WireFault
fault_at_place BadLength at = faults.BadLength at
fault_at_place Overrun at = faults.Overrun at
