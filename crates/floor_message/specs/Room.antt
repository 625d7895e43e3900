-- Room for the bytes of attributes (RFC 8855, section 5.2).
use Rattle.std.specs.Prelude.{ℕ, ◌≤◌, List, length}
use Rattle.floor_wire.specs.Spelling.{canon, IsWritable}
use Rattle.floor_wire.specs.View.{attributes_of}
use Rattle.floor_wire.specs.declared.attribute.Attr.{Attr}

-- the attributes can be written, in so many bytes
pub record FitsRoom (attrs : List Attr) (room : ℕ) : Type 0 where
  pub writable : IsWritable (attributes_of attrs)
  pub bytes : length (canon (attributes_of attrs)) ≤ room
