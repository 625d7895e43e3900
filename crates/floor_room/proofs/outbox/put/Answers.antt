use Rattle.std.proofs.Common.{◌≡◌, ◌+◌, ◌<◌, length, sym, arith}
use Rattle.std.proofs.lemmas.Result.{on_ok_weaker}
use Rattle.floor_room.proofs.Delivering.{delivered-below, delivered-above, delivered-one}
use Rattle.floor_room.proofs.outbox.put.Goals as goal

pub returns-in_default-clause-next : goal.returns-in_default-clause-next
returns-in_default-clause-next c = sym (delivered-below c.args.parcel 1 c.args.outboxes.now.items (omega arith))

pub returns-in-Some-get_mut-clause-next : goal.returns-in-Some-get_mut-clause-next
returns-in-Some-get_mut-clause-next c =
    let at : c.args.parcel.n ≡ 1 + c.in-Some.place = omega (arith, c.in-Some.ensures) in
    let within : c.in-Some.place < length c.args.outboxes.now.items = omega (arith, c.in-Some-get_mut.ensures) in
    on_ok_weaker c.put.result
    (λ is. delivered-one c.args.parcel 1 c.in-Some.place c.args.outboxes.now.items c.in-Some-get_mut.outbox.now c.put.new.self at within c.in-Some-get_mut.ensures.value is)
    c.put.ensures.next

pub returns-in-None-clause-next : goal.returns-in-None-clause-next
returns-in-None-clause-next c = sym (delivered-above c.args.parcel 1 c.args.outboxes.now.items (omega (arith, c.in-Some.ensures, c.in-None.ensures)))
