use Rattle.std.proofs.Common.{arith}
use Rattle.floor_wire.proofs.Elements.{smaller_at}
use Rattle.test_libraries.proofs.wire.shown.+shown.Goals as goal

pub shown-shown_body-requires : goal.shown-shown_body-requires
shown-shown_body-requires t c =
    (omega (arith, c.decreases, smaller_at c.args.attrs.now c.loop-attr.attr-index c.attr-item.result c.loop-attr-test.true c.attr-item.is), tt)
