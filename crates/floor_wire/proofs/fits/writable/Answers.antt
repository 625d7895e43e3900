use Rattle.floor_wire.proofs.Elements.{not_writable, writable_more, bytes_more}
use Rattle.floor_wire.proofs.fits.writable.Goals as goal

pub returns-in-None : goal.returns-in-None
returns-in-None c = record {
  value = (λ e. cc, λ w. absurd (not_writable c.args.attrs.now c.loop-attr.attr-index c.attr-item.result c.loop-attr-test.true c.attr-item.is c.in-None.ensures w));
  bytes = λ e. absurd cc;
}

pub loop-attr-preserved : goal.loop-attr-preserved
loop-attr-preserved c = (
  writable_more c.args.attrs.now c.loop-attr.attr-index c.attr-item.result c.loop-attr-test.true c.attr-item.is c.loop-attr.invariant.0 c.in-Some.ensures.0,
  bytes_more c.args.attrs.now c.loop-attr.attr-index c.attr-item.result c.loop-attr-test.true c.attr-item.is c.loop-attr.invariant.1 c.in-Some.ensures.1,
)
