-- Which bytes spell attributes, and the one spelling that is written (RFC 8855, section 5.2).
use Rattle.std.specs.Prelude.{◌≡◌, ℕ, ◌+◌, ◌-◌, ◌*◌, ◌%◌, ◌^◌, ◌<◌, ◌≤◌, Bool, false, ◌&&◌, List, [], ◌∷◌, ◌++◌, length, drop, slice_index, replicate, nat_le, if◌then◌else◌}
use Rattle.std.specs.Int.{w16, to_be_bytes}
use Rattle.floor_wire.specs.Attributes.{Content, num, pair, group, octets, Attributes, no_attributes, attribute}
use Rattle.floor_wire.specs.declared.format.Format.{Format}
use Rattle.floor_wire.specs.declared.format.Format.TheVariants.{Unsigned16, OctetString16, Grouped, OctetString}

-- the number in the first two bytes, the higher byte first
abbrev pub number_of : List ℕ → ℕ
number_of bytes = 256 * slice_index bytes 0 + slice_index bytes 1

-- the format of the attributes of a type (table 2); a type that the protocol doesn't know has octets
abbrev pub format_of : ℕ → Format
format_of kind =
    if nat_le 1 kind && nat_le kind 3 then Unsigned16
    else if nat_le 4 kind && nat_le kind 5 then OctetString16
    else if nat_le 14 kind && nat_le kind 18 then Grouped
    else OctetString

-- the format that a content has
abbrev pub format_of_content : Content → Format
format_of_content (num n) = Unsigned16
format_of_content (pair a b) = OctetString16
format_of_content (group n inside) = Grouped
format_of_content (octets os) = OctetString

-- the first byte: the type in the upper 7 bits, the M bit in the last
abbrev pub first_byte : ℕ → Bool → ℕ
first_byte kind must = 2 * kind + (if must then 1 else 0)

-- The bytes are an attribute, whose contents are as said, and then others, as said.
pub record SpellsFirst (kind : ℕ) (must : Bool) (IsBody IsRest : List ℕ → Type 0) (bytes : List ℕ) : Type 0 where
  pub contents : List ℕ
  pub padding : List ℕ
  pub after : List ℕ
  pub whole : bytes ≡ first_byte kind must ∷ (2 + length contents) ∷ (contents ++ padding ++ after)
  pub kind_fits : kind < 128
  pub length_fits : 2 + length contents < 256
  pub short : length padding < 4
  pub aligned : (2 + length contents + length padding) % 4 ≡ 0
  pub body : IsBody contents
  pub others : IsRest after

abbrev mutual
  -- The bytes are the contents of an attribute with this content: a 16-bit number; two bytes; a head number and then a spelling
  -- of the included attributes; or octets.
  pub SpellsContent : Content → List ℕ → Type 0
  SpellsContent (num n) bytes = (length bytes ≡ 2) × (n ≡ number_of bytes)
  SpellsContent (pair a b) bytes = bytes ≡ a ∷ b ∷ []
  SpellsContent (group n inside) bytes = (2 ≤ length bytes) × (n ≡ number_of bytes) × Spells inside (drop 2 bytes)
  SpellsContent (octets os) bytes = bytes ≡ os

  -- The bytes spell these attributes: no bytes spell none; else the first attribute's bytes stand in front of a spelling of the others.
  pub Spells : Attributes → List ℕ → Type 0
  Spells no_attributes bytes = bytes ≡ []
  Spells (attribute kind must content rest) bytes =
      (format_of kind ≡ format_of_content content) × SpellsFirst kind must (SpellsContent content) (Spells rest) bytes

-- the types that this protocol knows
abbrev pub is_known : ℕ → Bool
is_known kind = nat_le 1 kind && nat_le kind 18

-- zeros up to a multiple of 4 behind a head of 2 bytes and contents of this length
abbrev pub zeros_after : ℕ → List ℕ
zeros_after len = replicate ((4 - (2 + len) % 4) % 4) 0

-- an attribute with these contents, as it is written: M is written at unknown types alone
abbrev pub written : ℕ → Bool → List ℕ → List ℕ
written kind must contents =
    first_byte kind (if is_known kind then false else must) ∷ (2 + length contents) ∷ (contents ++ zeros_after (length contents))

abbrev mutual
  -- a content as it is written
  pub content_canon : Content → List ℕ
  content_canon (num n) = to_be_bytes w16 n
  content_canon (pair a b) = a ∷ b ∷ []
  content_canon (group n inside) = to_be_bytes w16 n ++ canon inside
  content_canon (octets os) = os

  -- the canonical spelling: each attribute as it is written, in order
  pub canon : Attributes → List ℕ
  canon no_attributes = []
  canon (attribute kind must content rest) = written kind must (content_canon content) ++ canon rest

abbrev mutual
  -- a content, with M clear at each known type inside it
  pub content_cleared : Content → Content
  content_cleared (num n) = num n
  content_cleared (pair a b) = pair a b
  content_cleared (group n inside) = group n (cleared inside)
  content_cleared (octets os) = octets os

  -- attributes with M clear at each known type, those inside groups too
  pub cleared : Attributes → Attributes
  cleared no_attributes = no_attributes
  cleared (attribute kind must content rest) = attribute kind (if is_known kind then false else must) (content_cleared content) (cleared rest)

abbrev mutual
  -- a content that has a spelling: its number has 16 bits, and its attributes have one
  pub IsWritableContent : Content → Type 0
  IsWritableContent (num n) = n < 2 ^ 16
  IsWritableContent (pair a b) = Unit {0}
  IsWritableContent (group n inside) = (n < 2 ^ 16) × IsWritable inside
  IsWritableContent (octets os) = Unit {0}

  -- attributes that have a spelling: each type is below 128 and has the format of its content, and each Length fits its byte
  pub IsWritable : Attributes → Type 0
  IsWritable no_attributes = Unit {0}
  IsWritable (attribute kind must content rest) =
      (kind < 128) × (format_of kind ≡ format_of_content content) × (2 + length (content_canon content) < 256) × IsWritableContent content × IsWritable rest
