use Rattle.std.proofs.Common.{refl}
use Rattle.floor_message.specs.Written.{number}
use Rattle.floor_message.proofs.Puts.{put_more}
use Rattle.floor_message.proofs.format.floors.put_floors.Goals as goal

pub loop-floor-preserved : goal.loop-floor-preserved
loop-floor-preserved c =
    put_more (number 2) c.args.floors.now c.loop-floor.floor-index _ 0 c.args.out.now c.loop-floor.out c.put_number.new.self c.loop-floor-test.true refl c.loop-floor.invariant c.in_ok-put_number.ensures
