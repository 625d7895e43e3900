use Rattle.std.proofs.Common.{◌≡◌, ◌∙◌}
use Rattle.floor_message.specs.Picked.{numbers, distinct}
use Rattle.floor_message.proofs.Picking.{numbers_done}
use Rattle.floor_message.proofs.format.floors.many_floors_in.Goals as goal

pub returns : goal.returns
returns c =
    let done : c.as_slice.result.now ≡ distinct (numbers 2 c.args.attrs.now) =
    c.as_slice.ensures.keys ∙ numbers_done 2 c.args.attrs.now c.loop-attr.rest c.loop-attr.found.keys c.in_default.ensures.0 c.loop-attr.invariant in
    rw (← done) c.from_slice.ensures.items
