-- What the steps of reading find.
use Rattle.std.specs.Prelude.{◌≡◌, ℕ, ◌≤◌, ◌<◌, false, List, [], ◌∷◌, length, take, slice_index}
use Rattle.floor_wire.specs.Spelling.{format_of, format_of_content, first_byte, Spells, SpellsContent}
use Rattle.floor_wire.specs.Fault.{is_bad_length, padded}
use Rattle.floor_wire.specs.View.{attributes_of, content_of}
use Rattle.floor_wire.specs.declared.attribute.Attr.{Attr}
use Rattle.floor_wire.specs.declared.attribute.Body.{Body}
use Rattle.floor_wire.specs.declared.format.Format.{Format}
use Rattle.floor_wire.specs.declared.format.Format.TheVariants.{Unsigned16, OctetString16, Grouped, OctetString}
use Rattle.floor_wire.specs.declared.read.Head.{Head}

-- the head at the front of bytes that hold its attribute whole
pub record IsHead (bytes : List ℕ) (head : Head) : Type 0 where
  pub first : slice_index bytes 0 ≡ first_byte head.kind head.must
  pub kind_fits : head.kind < 128
  pub len : slice_index bytes 1 ≡ head.len
  pub len_fits : head.len < 256
  pub good : is_bad_length (format_of head.kind) head.len ≡ false
  pub end : padded head.len ≡ head.end
  pub whole : head.end ≤ length bytes

-- the bytes begin with this attribute, which is so long
pub record IsFront (bytes : List ℕ) (attr : Attr) (end : ℕ) : Type 0 where
  pub some : 0 < end
  pub within : end ≤ length bytes
  pub spelled : Spells (attributes_of (attr ∷ [])) (take end bytes)

-- how long the contents are of an attribute with a Length of its format
abbrev pub FitsFormat : Format → ℕ → Type 0
FitsFormat Unsigned16 len = len ≡ 2
FitsFormat OctetString16 len = len ≡ 2
FitsFormat Grouped len = 2 ≤ len
FitsFormat OctetString len = Unit {0}

-- the contents are this body, of this format
pub record IsBodyOf (format : Format) (contents : List ℕ) (body : Body) : Type 0 where
  pub format_is : format ≡ format_of_content (content_of body)
  pub spelled : SpellsContent (content_of body) contents
