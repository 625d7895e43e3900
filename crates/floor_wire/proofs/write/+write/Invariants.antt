use Rattle.std.proofs.Common.{◌≡◌, ◌+◌, ◌*◌, ◌++◌, take}
use Rattle.floor_wire.specs.Attributes.{content_size, attributes_size}
use Rattle.floor_wire.specs.Spelling.{canon}
use Rattle.floor_wire.specs.View.{attributes_of, content_of}
use Rattle.floor_wire.proofs.write.+write.Given as goal

abbrev pub decreases-put_list : goal.decreases-put_list
decreases-put_list l = 2 * attributes_size (attributes_of l.attrs.now)

abbrev pub decreases-put_attribute : goal.decreases-put_attribute
decreases-put_attribute l = 2 * content_size (content_of l.attr.now.body) + 1

abbrev pub decreases-put_contents : goal.decreases-put_contents
decreases-put_contents l = 2 * content_size (content_of l.body.now)

abbrev pub invariant-put_list-loop-attr : goal.invariant-put_list-loop-attr
invariant-put_list-loop-attr l = l.out.items ≡ l.fn.out.items ++ canon (attributes_of (take l.attr-index l.attrs))
