use Rattle.std.proofs.Common.{◌<◌, ap, arith, length}
use Rattle.floor_queue.specs.Requested.{floor_without_chair}
use Rattle.floor_queue.proofs.Loops.{set-map_front}
use Rattle.floor_queue.proofs.requested_floor.RequestedFloors.take_chair.Goals as goal

pub loop-requested-preserved : goal.loop-requested-preserved
loop-requested-preserved c =
    let within : c.loop-requested.requested-index < length c.args.self.now = omega (arith, ap length c.self.view_is) in
    let within_now : c.loop-requested.requested-index < length c.loop-requested.requested-items = omega arith in
    set-map_front (floor_without_chair c.args.floor) c.args.self.now c.loop-requested.requested-items c.loop-requested.requested-index _ _ within within_now
    c.take_chair_of.ensures c.loop-requested.invariant
