use Rattle.std.proofs.Common.{◌≡◌, ◌++◌, take}
use Rattle.floor_room.specs.Replay.{bytes_of}
use Rattle.floor_hub.proofs.gathering.put_all.Given as goal

abbrev pub invariant-loop-parcel : goal.invariant-loop-parcel
invariant-loop-parcel l = l.bytes.items ≡ l.fn.bytes.items ++ bytes_of (take l.parcel-index l.parcels)
