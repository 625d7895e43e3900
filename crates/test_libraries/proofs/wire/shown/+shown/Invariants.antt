use Rattle.std.proofs.Common.{◌+◌, ◌*◌}
use Rattle.floor_wire.specs.Attributes.{content_size, attributes_size}
use Rattle.floor_wire.specs.View.{attributes_of, content_of}
use Rattle.test_libraries.proofs.wire.shown.+shown.Given as goal

abbrev pub decreases-shown : goal.decreases-shown
decreases-shown l = 2 * attributes_size (attributes_of l.attrs.now) + 1

abbrev pub decreases-shown_body : goal.decreases-shown_body
decreases-shown_body l = 2 * content_size (content_of l.body.now)
