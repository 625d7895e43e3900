use Rattle.std.proofs.Common.{arith}
use Rattle.floor_wire.specs.steps.Writable.{IsShort}
use Rattle.floor_wire.proofs.Elements.{smaller_at, not_writable, too_long, writable_more, bytes_more, canon_more_len}
use Rattle.floor_wire.proofs.fits.+fits.Goals as goal

pub list_len-attribute_len-requires : goal.list_len-attribute_len-requires
list_len-attribute_len-requires t c =
    (omega (arith, c.decreases, smaller_at c.args.attrs.now c.loop-attr.attr-index c.attr-item.result c.loop-attr-test.true c.attr-item.is), tt)

pub list_len-returns-in_err-len : goal.list_len-returns-in_err-len
list_len-returns-in_err-len t c =
    rw c.from_residual.ensures (λ (short : IsShort c.args.attrs.now c.args.most).
    not_writable c.args.attrs.now c.loop-attr.attr-index c.attr-item.result c.loop-attr-test.true c.attr-item.is c.in_err-len.ensures short.0)

pub list_len-returns-then-most-sum : goal.list_len-returns-then-most-sum
list_len-returns-then-most-sum t c =
    too_long c.args.attrs.now c.loop-attr.attr-index c.args.most c.attr-item.result c.loop-attr-test.true c.attr-item.is
    (omega (arith, c.if-most-sum.true, c.loop-attr.invariant.2, c.loop-attr.invariant.3, c.in_ok-len.ensures.2))

pub list_len-loop-attr-preserved : goal.list_len-loop-attr-preserved
list_len-loop-attr-preserved t c = (
  writable_more c.args.attrs.now c.loop-attr.attr-index c.attr-item.result c.loop-attr-test.true c.attr-item.is c.loop-attr.invariant.0 c.in_ok-len.ensures.0,
  bytes_more c.args.attrs.now c.loop-attr.attr-index c.attr-item.result c.loop-attr-test.true c.attr-item.is c.loop-attr.invariant.1 c.in_ok-len.ensures.1,
  omega (arith, c.loop-attr.invariant.2, c.in_ok-len.ensures.2, canon_more_len c.args.attrs.now c.loop-attr.attr-index c.attr-item.result c.loop-attr-test.true c.attr-item.is),
  omega (arith, c.if-most-sum.false, c.loop-attr.invariant.3),
)
