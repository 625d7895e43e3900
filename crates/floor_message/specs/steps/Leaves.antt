-- What is left of room for bytes behind attributes (RFC 8855, section 5.2).
use Rattle.std.specs.Prelude.{◌≡◌, ℕ, ◌+◌, List, length, Option, Some, None}
use Rattle.floor_wire.specs.Bytes.{IsOfBytes}
use Rattle.floor_wire.specs.Spelling.{canon, IsWritable}
use Rattle.floor_wire.specs.View.{attributes_of}
use Rattle.floor_wire.specs.declared.attribute.Attr.{Attr}
use Rattle.floor_message.specs.Room.{FitsRoom}

-- so much room is left behind the attributes, which are of bytes, or they don't fit it
abbrev pub Leaves : List Attr → ℕ → Option ℕ → Type 0
Leaves attrs room None = FitsRoom attrs room → ⊥
Leaves attrs room (Some left) =
    IsWritable (attributes_of attrs) × (length (canon (attributes_of attrs)) + left ≡ room) × IsOfBytes (attributes_of attrs)
