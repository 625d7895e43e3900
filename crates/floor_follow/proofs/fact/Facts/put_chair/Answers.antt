use Rattle.std.proofs.Common.{◌<◌, ap, arith, length}
use Rattle.floor_follow.specs.Facts.{with_chair}
use Rattle.floor_follow.proofs.Loops.{set-map_front}
use Rattle.floor_follow.proofs.fact.Facts.put_chair.Goals as goal

pub loop-fact-preserved : goal.loop-fact-preserved
loop-fact-preserved c =
    let within : c.loop-fact.fact-index < length c.args.self.now = omega (arith, ap length c.self.view_is) in
    let within_now : c.loop-fact.fact-index < length c.loop-fact.fact-items = omega arith in
    set-map_front (with_chair c.args.id c.args.chair) c.args.self.now c.loop-fact.fact-items c.loop-fact.fact-index _ _ within within_now
    c.give_chair.ensures c.loop-fact.invariant
