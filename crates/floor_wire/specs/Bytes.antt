-- Which lists are of bytes, and which attributes hold no number above a byte where a byte is written (RFC 8855, section 5.2).
use Rattle.std.specs.Prelude.{ℕ, ◌<◌, List, slice_index}
use Rattle.floor_wire.specs.Attributes.{Content, num, pair, group, octets, Attributes, no_attributes, attribute}

-- each is a byte, from 0 to 255
abbrev pub IsBytes : List ℕ → Type 0
IsBytes s = (i : ℕ) → slice_index s i < 256

abbrev mutual
  -- a content whose two bytes, or octets, are bytes, those inside a group too
  pub IsContentOfBytes : Content → Type 0
  IsContentOfBytes (num n) = Unit {0}
  IsContentOfBytes (pair a b) = (a < 256) × (b < 256)
  IsContentOfBytes (group n inside) = IsOfBytes inside
  IsContentOfBytes (octets os) = IsBytes os

  -- attributes whose contents are
  pub IsOfBytes : Attributes → Type 0
  IsOfBytes no_attributes = Unit {0}
  IsOfBytes (attribute kind must content rest) = IsContentOfBytes content × IsOfBytes rest
