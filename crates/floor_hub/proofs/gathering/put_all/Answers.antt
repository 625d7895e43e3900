use Rattle.std.proofs.Common.{◌<◌, length, arith}
use Rattle.floor_hub.proofs.Waiting.{put_more}
use Rattle.floor_hub.proofs.gathering.put_all.Goals as goal

pub loop-parcel-preserved : goal.loop-parcel-preserved
loop-parcel-preserved c =
    let within : c.loop-parcel.parcel-index < length c.args.parcels.now = omega arith in
    put_more c.args.parcels.now c.loop-parcel.parcel-index c.parcel-item.result c.args.bytes.now.items c.loop-parcel.bytes.items c.put.new.bytes.items within c.parcel-item.is
    c.loop-parcel.invariant c.in_ok-put.ensures.next
