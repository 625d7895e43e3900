use Rattle.floor_message.proofs.Picking.{numbers_done}
use Rattle.floor_message.proofs.format.floors.floors_in.Goals as goal

pub returns : goal.returns
returns c = numbers_done 2 c.args.attrs.now c.loop-attr.rest c.loop-attr.found.items c.in_default.ensures.0 c.loop-attr.invariant
