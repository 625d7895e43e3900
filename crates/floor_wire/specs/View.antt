-- What the fields of `Attrs` stand for.
use Rattle.std.specs.Prelude.{List, [], ◌∷◌}
use Rattle.floor_wire.specs.declared.attribute.Attr.{Attr}
use Rattle.floor_wire.specs.declared.attribute.Body.{Body}
use Rattle.floor_wire.specs.declared.attribute.Body.TheVariants.{Num, Pair, Group, Octets}
use Rattle.floor_wire.specs.Attributes as spec
use Rattle.floor_wire.specs.Attributes.{Content, Attributes}

-- the content of a body
abbrev pub content_of : Body → Content
content_of (Num n) = spec.num n
content_of (Pair a b) = spec.pair a b
content_of (Group n inside) = spec.group n inside
content_of (Octets os) = spec.octets os

-- a list of attributes as a value
abbrev pub attributes_of : List Attr → Attributes
attributes_of [] = spec.no_attributes
attributes_of (a ∷ rest) = spec.attribute a.kind a.must (content_of a.body) (attributes_of rest)

-- the body with this content
abbrev pub body_of : Content → Body
body_of (spec.num n) = Num n
body_of (spec.pair a b) = Pair a b
body_of (spec.group n inside) = Group n inside
body_of (spec.octets os) = Octets os

-- the attributes as a list
abbrev pub items : Attributes → List Attr
items spec.no_attributes = []
items (spec.attribute kind must content rest) = record { kind = kind; must = must; body = body_of content } ∷ items rest
