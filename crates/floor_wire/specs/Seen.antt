-- The attribute that a view of one shows.
use Rattle.floor_wire.specs.View.{attributes_of}
use Rattle.floor_wire.specs.declared.attribute.Attr.{Attr}
use Rattle.floor_wire.specs.declared.attribute.Body.{Body}
use Rattle.floor_wire.specs.declared.attribute.Body.TheVariants as bodies
use Rattle.floor_wire.specs.declared.view.AttrView.{AttrView}
use Rattle.floor_wire.specs.declared.view.BodyView.{BodyView}
use Rattle.floor_wire.specs.declared.view.BodyView.TheVariants.{Num, Pair, Group, Octets}

-- the body of an attribute
abbrev pub body_seen : BodyView → Body
body_seen (Num n) = bodies.Num n
body_seen (Pair a b) = bodies.Pair a b
body_seen (Group n inside) = bodies.Group n (attributes_of inside)
body_seen (Octets os) = bodies.Octets os.now

-- the attribute
abbrev pub attr_seen : AttrView → Attr
attr_seen v = record { kind = v.kind; must = v.must; body = body_seen v.body }
