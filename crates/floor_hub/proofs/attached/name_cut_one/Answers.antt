use Rattle.std.proofs.Common.{◌<◌, ◌&&◌, arith, length, vec_capacity, refl}
use Rattle.std.specs.Prelude.{◌==◌, not}
use Rattle.floor_hub.specs.declared.attached.Live.{Live}
use Rattle.floor_hub.specs.steps.Attached.{cut_at}
use Rattle.floor_hub.proofs.Putting.{has-room, naming-changed, naming-one, over-zero, picked}
use Rattle.floor_hub.proofs.attached.name_cut_one.Goals as goal

pub put_number-requires-clause-first : goal.put_number-requires-clause-first
put_number-requires-clause-first c =
    over-zero c.in-Some.number c.args.live.now.items c.requires.listed
    (picked c.mark.result c.in-Some.number (λ (l : Live). c.args.n == l.n && not l.is_cut) c.args.live.now.items c.in-Some.is c.mark.ensures.value)

pub put_number-requires-clause-room : goal.put_number-requires-clause-room
put_number-requires-clause-room c = λ none.
    let few : length c.args.numbers.now.items < vec_capacity c.args.numbers.now = has-room c.args.live.now.items c.args.numbers.now.items (vec_capacity c.args.numbers.now) c.in-Some.number c.requires
    (picked c.mark.result c.in-Some.number (λ (l : Live). c.args.n == l.n && not l.is_cut) c.args.live.now.items c.in-Some.is c.mark.ensures.value) none in
    omega (arith, few)

pub returns-in-Some-clause-naming : goal.returns-in-Some-clause-naming
returns-in-Some-clause-naming c =
    naming-changed (cut_at c.args.n) c.args.live.now.items c.mark.new.live.items c.put_number.new.numbers.items (vec_capacity c.put_number.new.numbers) (λ l. refl) (λ l. refl) c.mark.ensures.next
    (naming-one c.args.live.now.items c.args.numbers.now.items c.put_number.new.numbers.items c.in-Some.number (vec_capacity c.args.numbers.now) (vec_capacity c.put_number.new.numbers) c.requires
    c.put_number.ensures.ascending c.put_number.ensures.put
    (picked c.mark.result c.in-Some.number (λ (l : Live). c.args.n == l.n && not l.is_cut) c.args.live.now.items c.in-Some.is c.mark.ensures.value) c.put_number.ensures.capacity)

pub returns-in-None-clause-naming : goal.returns-in-None-clause-naming
returns-in-None-clause-naming c =
    naming-changed (cut_at c.args.n) c.args.live.now.items c.mark.new.live.items c.args.numbers.now.items (vec_capacity c.args.numbers.now) (λ l. refl) (λ l. refl) c.mark.ensures.next c.requires
