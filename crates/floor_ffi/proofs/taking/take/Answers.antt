use Rattle.std.proofs.Common.{arith, length}
use Rattle.floor_ffi.proofs.Takes.{takes-ended, takes-more, takes-most, takes-none}
use Rattle.floor_ffi.proofs.taking.take.Goals as goal

pub loop-parcels-init : goal.loop-parcels-init
loop-parcels-init c = takes-none c.args.hub.now c.args.connection (length c.args.room.now) c.args.room.now

pub split_at_mut-rest-requires : goal.split_at_mut-rest-requires
split_at_mut-rest-requires c = omega (arith, c.loop-parcels.invariant.within, c.loop-parcels.auto.room)

pub loop-parcels-preserved : goal.loop-parcels-preserved
loop-parcels-preserved c =
    takes-more c.args.hub.now c.loop-parcels.hub c.take_one-next.new.hub c.args.connection c.loop-parcels.parcels c.loop-parcels.len (length c.args.room.now) c.in-Taken.more c.loop-parcels.room
    c.split_at_mut-rest.result.0.now c.split_at_mut-rest.result.1.now c.take_one-next.new.room c.loop-parcels.invariant c.split_at_mut-rest.ensures.front_len c.split_at_mut-rest.ensures.front
    (omega (arith, c.split_at_mut-rest.ensures.back_len, c.loop-parcels.auto.room)) c.in-Taken.ensures.takes

pub returns-in_default : goal.returns-in_default
returns-in_default c = record {
  gives = takes-ended c.args.hub.now c.loop-parcels.hub c.take_one-next.new.hub c.args.connection c.loop-parcels.parcels c.loop-parcels.len (length c.args.room.now) c.ended.result.result
      c.ended.result.parcels c.ended.result.len c.loop-parcels.room c.split_at_mut-rest.result.0.now c.split_at_mut-rest.result.1.now c.take_one-next.new.room c.take_one-next.result
      c.loop-parcels.invariant c.split_at_mut-rest.ensures.front_len c.split_at_mut-rest.ensures.front
      (omega (arith, c.split_at_mut-rest.ensures.back_len, c.loop-parcels.auto.room)) c.in_default.not-Taken c.take_one-next.ensures.takes c.ended.ensures.value;
}

pub returns : goal.returns
returns c = record {
  gives = takes-most c.args.hub.now c.loop-parcels.hub c.args.connection c.loop-parcels.parcels c.loop-parcels.len (length c.args.room.now) c.number.result c.loop-parcels.room c.loop-parcels.invariant
      (omega (arith, c.loop-parcels.auto.parcels-end, c.loop-parcels-test.false)) c.number.ensures.value;
}
