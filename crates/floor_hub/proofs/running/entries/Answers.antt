use Rattle.std.proofs.Common.{◌<◌, ◌+◌, length, get_or, arith, refl}
use Rattle.floor_hub.specs.declared.connection.Place.{Place}
use Rattle.floor_hub.proofs.Entries.{entries_all, entries_more}
use Rattle.floor_hub.proofs.running.entries.Goals as goal

pub loop-place-preserved : goal.loop-place-preserved
loop-place-preserved c =
    let d : Place = record { conference = 0; n = 0 } in
    let p : Place = get_or c.args.places.now c.loop-place.place-index (record { conference = 0; n = 0 }) in
    let within : c.loop-place.place-index < length c.args.places.now = omega arith in
    entries_more c.args.hub.now c.args.places.now c.loop-place.place-index (c.len.result + 1) (get_or c.args.places.now c.loop-place.place-index (record { conference = 0; n = 0 }))
    (record { conference = 0; n = 0 }) c.loop-place.entries.items c.push.new.self.items c.in_ok-bytes.bytes within refl c.loop-place.invariant.1 (omega (arith, c.len.ensures))
    c.loop-place.invariant.0 c.in_ok-bytes.ensures.value c.in_ok-push.ensures.items

pub returns : goal.returns
returns c = record { value = entries_all c.args.hub.now c.args.places.now c.loop-place.place-index c.loop-place.entries.items (omega arith) c.loop-place.invariant.0 }
