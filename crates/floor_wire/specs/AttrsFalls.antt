-- The attributes of a group are fewer than those of the list that holds it.
use Rattle.std.specs.Prelude.{◌≤◌, List, [], ◌∷◌}
use Rattle.std.proofs.Common.{arith}
use denote.Param.Weighed.{most}
use Rattle.floor_wire.specs.declared.attribute.Attr.{Attr}
use Rattle.floor_wire.specs.declared.attribute.Body.{Body}
use Rattle.floor_wire.specs.declared.attribute.Body.TheVariants.{Num, Pair, Group, Octets}
use Rattle.floor_wire.specs.declared.attribute.Attrs.TheDeep.{deep-Attr, deep-Body}
use Rattle.floor_wire.specs.Attributes.{attributes_size, content_size}
use Rattle.floor_wire.specs.View.{attributes_of, content_of}

pub deep_body : (b : Body) → deep-Body b ≤ content_size (content_of b)
deep_body (Num n) = omega arith
deep_body (Pair a b) = omega arith
deep_body (Group n inside) = omega arith
deep_body (Octets os) = omega arith

pub most_le-attributes_size : (xs : List Attr) → most deep-Attr xs ≤ attributes_size (attributes_of xs)
most_le-attributes_size [] = omega arith
most_le-attributes_size (a ∷ xs) = omega (arith, deep_body a.body, most_le-attributes_size xs)
