-- The attributes that bytes spell, computed (RFC 8855, section 5.2).
use Rattle.std.specs.Prelude.{ℕ, zero, suc, ◌%◌, ◌==◌, Bool, List, [], ◌∷◌, length, drop, slice_index, slice_range, Option, Some, None, option_map, option_and_then}
use Rattle.floor_wire.specs.Attributes.{Content, num, pair, group, octets, Attributes, no_attributes, attribute}
use Rattle.floor_wire.specs.Spelling.{format_of, number_of}
use Rattle.floor_wire.specs.Fault.{front_kind, front_len, front_fault, padded}
use Rattle.floor_wire.specs.declared.format.Format.{Format}
use Rattle.floor_wire.specs.declared.format.Format.TheVariants.{Unsigned16, OctetString16, Grouped, OctetString}
use Rattle.floor_wire.specs.declared.fault.Cause.{Cause}

-- the body in these contents, of this format; a group holds what its other bytes spell
abbrev pub content_in : Format → List ℕ → (List ℕ → Option Attributes) → Option Content
content_in Unsigned16 contents inside = Some (num (number_of contents))
content_in OctetString16 contents inside = Some (pair (slice_index contents 0) (slice_index contents 1))
content_in Grouped contents inside = option_map (group (number_of contents)) (inside (drop 2 contents))
content_in OctetString contents inside = Some (octets contents)

-- an attribute in front of those behind it
abbrev pub in_front : ℕ → Bool → Option Content → Option Attributes → Option Attributes
in_front kind must content rest = option_and_then (λ c. option_map (attribute kind must c) rest) content

-- the attribute at the front, where it has no fault, and then the others
abbrev pub front_first : Option Cause → List ℕ → (List ℕ → Option Attributes) → Option Attributes
front_first (Some cause) bytes others = None
front_first None bytes others =
    in_front (front_kind bytes) (slice_index bytes 0 % 2 == 1)
    (content_in (format_of (front_kind bytes)) (slice_range bytes 2 (front_len bytes)) others) (others (drop (padded (front_len bytes)) bytes))

-- in at most so many steps
unfoldable pub spelled_within : ℕ → List ℕ → Option Attributes
spelled_within n [] = Some no_attributes
spelled_within zero (b ∷ bytes) = None
spelled_within (suc n) (b ∷ bytes) = front_first (front_fault (b ∷ bytes)) (b ∷ bytes) (λ s. spelled_within n s)

-- the attributes that the bytes spell, or None
unfoldable pub spelled : List ℕ → Option Attributes
spelled bytes = spelled_within (length bytes) bytes
