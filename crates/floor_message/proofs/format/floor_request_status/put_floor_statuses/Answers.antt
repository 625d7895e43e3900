use Rattle.std.proofs.Common.{None, refl}
use Rattle.floor_message.specs.Written.{floor_attr}
use Rattle.floor_message.proofs.Puts.{put_more}
use Rattle.floor_message.proofs.format.floor_request_status.put_floor_statuses.Goals as goal

pub loop-floor-preserved : goal.loop-floor-preserved
loop-floor-preserved c =
    put_more floor_attr c.args.floors.now c.loop-floor.floor-index _ (0, None) c.args.out.now c.loop-floor.out c.put_floor_status.new.out c.loop-floor-test.true refl c.loop-floor.invariant c.in_ok-put_floor_status.ensures
