use Rattle.floor_wire.proofs.Viewed.{view_spelled, view_writable, none_spelled}
use Rattle.floor_wire.proofs.view.AttrsView.of.Goals as goal

pub returns-then-is_spelled-clause-value : goal.returns-then-is_spelled-clause-value
returns-then-is_spelled-clause-value c = view_spelled c.args.bytes.now (c.is_spelled.ensures.0 c.if-is_spelled.true)

pub returns-then-is_spelled-clause-writable : goal.returns-then-is_spelled-clause-writable
returns-then-is_spelled-clause-writable c = view_writable c.args.bytes.now c.a_slice_is_of_bytes.ensures (c.is_spelled.ensures.0 c.if-is_spelled.true)

pub returns-else-is_spelled-clause-value : goal.returns-else-is_spelled-clause-value
returns-else-is_spelled-clause-value c =
    none_spelled c.args.bytes.now c.a_slice_is_of_bytes.ensures (λ w. let t = c.is_spelled.ensures.1 w in let f = c.if-is_spelled.false in cc)
