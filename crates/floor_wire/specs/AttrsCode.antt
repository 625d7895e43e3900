-- How lists of attributes are told apart: as the values that they stand for.
use Rattle.std.specs.Prelude.{◌≡◌, List, [], ◌∷◌, refl}
use Rattle.std.proofs.Common.{◌∙◌, ap}
use Rattle.std.specs.Coded.{Coded, code_by}
use Rattle.floor_wire.specs.Attributes.{Attributes}
use Rattle.floor_wire.specs.AttributesCode.{attributes_code}
use Rattle.floor_wire.specs.View.{content_of, attributes_of, body_of, items}
use Rattle.floor_wire.specs.declared.attribute.Attr.{Attr}
use Rattle.floor_wire.specs.declared.attribute.Body.{Body}
use Rattle.floor_wire.specs.declared.attribute.Body.TheVariants.{Num, Pair, Group, Octets}

body_of-content_of : (b : Body) → body_of (content_of b) ≡ b
body_of-content_of (Num n) = refl
body_of-content_of (Pair a b) = refl
body_of-content_of (Group n inside) = refl
body_of-content_of (Octets os) = refl

-- the list of a value of attributes is the list that it stands for
pub items-attributes_of : (xs : List Attr) → items (attributes_of xs) ≡ xs
items-attributes_of [] = refl
items-attributes_of (x ∷ xs) =
    ap (λ b. record x { body = b } ∷ items (attributes_of xs)) (body_of-content_of x.body) ∙ ap (λ l. x ∷ l) (items-attributes_of xs)

abbrev pub attrs_code : Coded (List Attr)
attrs_code = code_by Attributes attributes_code attributes_of items items-attributes_of
