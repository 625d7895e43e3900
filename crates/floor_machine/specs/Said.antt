-- What a message comes to that the administrator says for a user: it is read as from a connection of the user (RFC 8855, sections 5.1 to
-- 5.3 and 13), and asks by a FloorRequest, a FloorRelease or a ChairAction alone.
use Rattle.std.specs.Prelude.{ℕ, List, drop, Option, Some, None}
use Rattle.floor_wire.specs.Attributes.{Attributes}
use Rattle.floor_wire.specs.Header.{CommonHeader, header_of}
use Rattle.floor_wire.specs.Spelled.{spelled}
use Rattle.floor_message.specs.Ask.{Answer, asks_if_any, checks, first_of, wanted}
use Rattle.floor_message.specs.Binding.{Binding}
use Rattle.floor_message.specs.Primitive.{primitive_of}
use Rattle.floor_message.specs.declared.primitive.Primitive.{Primitive}
use Rattle.floor_message.specs.declared.primitive.Primitive.TheVariants as primitive

-- the primitive, where it is one that is said for a user; any other is unknown there (section 5.2.6)
abbrev pub sayable : Option Primitive → Option Primitive
sayable (Some primitive.FloorRequest) = Some primitive.FloorRequest
sayable (Some primitive.FloorRelease) = Some primitive.FloorRelease
sayable (Some primitive.ChairAction) = Some primitive.ChairAction
sayable _ = None

-- the checks in their order, of such a primitive
abbrev pub answer_said : CommonHeader → Binding → Option Primitive → Option Attributes → Answer
answer_said h b p attrs = first_of (checks h b p attrs) (asks_if_any (wanted p attrs))

-- what it comes to, by its bytes and the binding of a connection of the user
unfoldable pub said : List ℕ → Binding → Answer
said bytes b = answer_said (header_of bytes) b (sayable (primitive_of (header_of bytes).primitive)) (spelled (drop 12 bytes))
