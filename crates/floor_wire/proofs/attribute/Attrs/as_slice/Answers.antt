use Rattle.std.proofs.Common.{sym, ap, ◌∙◌}
use Rattle.floor_wire.specs.View.{items}
use Rattle.floor_wire.specs.AttrsCode.{items-attributes_of}
use Rattle.floor_wire.proofs.attribute.Attrs.as_slice.Goals as goal

pub returns-clause-list : goal.returns-clause-list
returns-clause-list c = c.as_slice.ensures.value ∙ sym (items-attributes_of c.self.inside.items.items) ∙ ap items c.self.view_is
