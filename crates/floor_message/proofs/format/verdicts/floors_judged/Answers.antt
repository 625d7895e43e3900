use Rattle.floor_message.proofs.Picking.{judged_done}
use Rattle.floor_message.proofs.format.verdicts.floors_judged.Goals as goal

pub returns : goal.returns
returns c = judged_done c.args.inside.now c.loop-attr.rest c.overall_status-overall.result c.loop-attr.found.items c.in_default.ensures.0 c.overall_status-overall.ensures c.loop-attr.invariant
