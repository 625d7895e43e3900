use Rattle.std.proofs.Common.{◌<◌, arith, length}
use Rattle.floor_config.specs.Changed.{chaired}
use Rattle.floor_queue.proofs.Loops.{set-map_front}
use Rattle.floor_queue.proofs.requests.put_chair.Goals as goal

pub loop-known-preserved : goal.loop-known-preserved
loop-known-preserved c =
    let within : c.loop-known.known-index < length c.args.floors.now.items = omega arith in
    let within_now : c.loop-known.known-index < length c.loop-known.known-items = omega arith in
    set-map_front (chaired c.args.floor c.args.chair) c.args.floors.now.items c.loop-known.known-items c.loop-known.known-index _ _ within within_now
    c.give_chair.ensures c.loop-known.invariant
