-- The order in which attributes stand in bytes, and the first that is faulty (RFC 8855, section 5.2).
use Rattle.std.specs.Prelude.{◌≡◌, ℕ, ◌+◌, ◌<◌, List, length, drop, slice_range, Some, None}
use Rattle.floor_wire.specs.Spelling.{format_of}
use Rattle.floor_wire.specs.Fault.{padded, front_kind, front_len, front_fault}
use Rattle.floor_wire.specs.declared.format.Format.TheVariants.{Grouped}
use Rattle.floor_wire.specs.declared.fault.Cause.{Cause}

-- An attribute begins at this offset of the bytes, and from there to the end of what holds it stand these: where there are
-- bytes, the first begins at 0; if it has no fault itself, those of the bytes behind it begin too, and if it is a group as well,
-- those of the bytes in it, behind the 4 of its head.
pub data BeginsAt : List ℕ → ℕ → List ℕ → Type 0 where
  foremost : {bytes : List ℕ} → 0 < length bytes → BeginsAt bytes 0 bytes
  behind : {bytes other : List ℕ} {at further : ℕ} → front_fault bytes ≡ None
      → BeginsAt (drop (padded (front_len bytes)) bytes) further other → at ≡ padded (front_len bytes) + further → BeginsAt bytes at other
  included : {bytes other : List ℕ} {at further : ℕ} → front_fault bytes ≡ None → format_of (front_kind bytes) ≡ Grouped
      → BeginsAt (slice_range bytes 4 (front_len bytes)) further other → at ≡ 4 + further → BeginsAt bytes at other

-- One attribute alone begins at this offset, it has this fault itself, and no attribute that begins at a lower offset has one.
pub record IsFirstFault (bytes : List ℕ) (at : ℕ) (cause : Cause) : Type 0 where
  pub tail : List ℕ
  pub begins : BeginsAt bytes at tail
  pub alone : (other : List ℕ) → BeginsAt bytes at other → other ≡ tail
  pub faulty : front_fault tail ≡ Some cause
  pub first : (lower : ℕ) (other : List ℕ) → BeginsAt bytes lower other → lower < at → front_fault other ≡ None
