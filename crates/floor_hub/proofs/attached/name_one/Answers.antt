use Rattle.std.proofs.Common.{◌<◌, arith, length, vec_capacity}
use Rattle.std.specs.Prelude.{◌==◌}
use Rattle.floor_hub.specs.declared.attached.Live.{Live}
use Rattle.floor_hub.proofs.Putting.{has-room, naming-one, over-zero, picked}
use Rattle.floor_hub.proofs.attached.name_one.Goals as goal

pub put_number-requires-clause-first : goal.put_number-requires-clause-first
put_number-requires-clause-first c =
    over-zero c.in-Some.number c.args.live.now c.requires.listed (picked c.number_of.result c.in-Some.number (λ (l : Live). c.args.n == l.n) c.args.live.now c.in-Some.is c.number_of.ensures.value)

pub put_number-requires-clause-room : goal.put_number-requires-clause-room
put_number-requires-clause-room c = λ none.
    let few : length c.args.numbers.now.items < vec_capacity c.args.numbers.now = has-room c.args.live.now c.args.numbers.now.items (vec_capacity c.args.numbers.now) c.in-Some.number c.requires
    (picked c.number_of.result c.in-Some.number (λ (l : Live). c.args.n == l.n) c.args.live.now c.in-Some.is c.number_of.ensures.value) none in
    omega (arith, few)

pub returns-in-Some-clause-naming : goal.returns-in-Some-clause-naming
returns-in-Some-clause-naming c =
    naming-one c.args.live.now c.args.numbers.now.items c.put_number.new.numbers.items c.in-Some.number (vec_capacity c.args.numbers.now) (vec_capacity c.put_number.new.numbers) c.requires
    c.put_number.ensures.ascending c.put_number.ensures.put
    (picked c.number_of.result c.in-Some.number (λ (l : Live). c.args.n == l.n) c.args.live.now c.in-Some.is c.number_of.ensures.value) c.put_number.ensures.capacity
