use Rattle.std.proofs.Common.{◌≡◌, ◌<◌, ◌≤◌, suc, length, arith}
use Rattle.floor_room.proofs.Taking.{counted_few, given-none, given-some}
use Rattle.floor_room.proofs.outbox.take.Goals as goal

pub take-requires : goal.take-requires
take-requires c =
    let within : c.in-Some.place < length c.args.outboxes.now.items = omega (arith, c.in-Some-get_mut.ensures) in
    counted_few c.args.outboxes.now.items c.in-Some.place c.in-Some-get_mut.outbox.now c.requires within c.in-Some-get_mut.ensures.value

pub returns-in-Some-get_mut-clause-given : goal.returns-in-Some-get_mut-clause-given
returns-in-Some-get_mut-clause-given c =
    let within : c.in-Some.place < length c.args.outboxes.now.items = omega (arith, c.in-Some-get_mut.ensures) in
    let number : c.args.n ≡ suc c.in-Some.place = omega (arith, c.in-Some.ensures) in
    given-some c.args.outboxes.now.items c.in-Some.place c.args.n c.in-Some-get_mut.outbox.now c.take.new.self c.take.result number within c.in-Some-get_mut.ensures.value c.take.ensures

pub returns-in-None-clause-given : goal.returns-in-None-clause-given
returns-in-None-clause-given c =
    let past : length c.args.outboxes.now.items ≤ c.in-Some.place = omega (arith, c.in-None.ensures) in
    let number : c.args.n ≡ suc c.in-Some.place = omega (arith, c.in-Some.ensures) in
    given-none c.args.outboxes.now.items c.in-Some.place c.args.n (record {}) number past
