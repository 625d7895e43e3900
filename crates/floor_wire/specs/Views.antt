-- The attributes that stand in bytes, as views of the bytes show them (RFC 8855, section 5.2).
use Rattle.std.specs.Prelude.{◌≡◌, ℕ, List, drop, slice_index, Option, Some, None}
use Rattle.floor_wire.specs.Attributes.{Content, Attributes, no_attributes}
use Rattle.floor_wire.specs.Spelling.{format_of_content, number_of, Spells, SpellsContent}
use Rattle.floor_wire.specs.Spelled.{spelled}
use Rattle.floor_wire.specs.View.{items}
use Rattle.floor_wire.specs.declared.attribute.Attr.{Attr}
use Rattle.floor_wire.specs.declared.attribute.Body.{Body}
use Rattle.floor_wire.specs.declared.attribute.Body.TheVariants.{Num, Pair, Group, Octets}
use Rattle.floor_wire.specs.declared.format.Format.{Format}
use Rattle.floor_wire.specs.declared.format.Format.TheVariants.{Unsigned16, OctetString16, Grouped, OctetString}

-- the attributes where there are any, else none
abbrev pub or_none : Option Attributes → Attributes
or_none (Some a) = a
or_none None = no_attributes

-- the attributes that the bytes spell, as a list
abbrev pub attrs_in : List ℕ → List Attr
attrs_in bytes = items (or_none (spelled bytes))

-- the body that contents of this format are
abbrev pub body_in : Format → List ℕ → Body
body_in Unsigned16 contents = Num (number_of contents)
body_in OctetString16 contents = Pair (slice_index contents 0) (slice_index contents 1)
body_in Grouped contents = Group (number_of contents) (or_none (spelled (drop 2 contents)))
body_in OctetString contents = Octets contents

-- the bytes spell attributes
abbrev pub IsSpelled : List ℕ → Type 0
IsSpelled bytes = (a : Attributes) × Spells a bytes

-- the bytes are the contents of an attribute of this format
abbrev pub IsContent : Format → List ℕ → Type 0
IsContent format bytes = (c : Content) × (format ≡ format_of_content c) × SpellsContent c bytes
