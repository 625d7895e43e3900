-- One attribute that can be written, and how long it is.
use Rattle.std.specs.Prelude.{◌≡◌, ℕ, ◌+◌, ◌<◌, ◌≤◌, List, length}
use Rattle.floor_wire.specs.View.{content_of, attributes_of}
use Rattle.floor_wire.specs.Spelling.{format_of, format_of_content, written, content_canon, canon, IsWritable, IsWritableContent}
use Rattle.floor_wire.specs.declared.attribute.Attr.{Attr}
use Rattle.floor_wire.specs.declared.attribute.Body.{Body}

-- what a writable list has at each place
pub record IsWritableAttribute (a : Attr) : Type 0 where
  pub kind : a.kind < 128
  pub format : format_of a.kind ≡ format_of_content (content_of a.body)
  pub len : 2 + length (content_canon (content_of a.body)) < 256
  pub content : IsWritableContent (content_of a.body)

-- the attribute as it is written
abbrev pub attribute_bytes : Attr → List ℕ
attribute_bytes a = written a.kind a.must (content_canon (content_of a.body))

-- a body that can be written, with a Length that fits
abbrev pub FitsBody : Body → Type 0
FitsBody body = IsWritableContent (content_of body) × (2 + length (content_canon (content_of body)) < 256)

-- a list that can be written, in so many bytes
abbrev pub IsShort : List Attr → ℕ → Type 0
IsShort xs most = IsWritable (attributes_of xs) × (length (canon (attributes_of xs)) ≤ most)
