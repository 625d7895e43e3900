use Rattle.std.proofs.Common.{◌≡◌, All, List, ◌≤◌, arith, length, slice_index_or, subst}
use Rattle.std.proofs.lemmas.List.{take_all}
use Rattle.std.proofs.lemmas.List.Elements.{All-more}
use Rattle.floor_machine.specs.declared.event.Event.{Event}
use Rattle.floor_loop.specs.Resumed.{IsLeave}
use Rattle.floor_loop.proofs.same.are_leaves.Goals as goal

pub loop-event-preserved : goal.loop-event-preserved
loop-event-preserved c =
    let es = c.args.events.now in
    let i = c.loop-event.event-index in
    let leave : IsLeave c.event-item.result = search (c.is_leave.ensures.value) in
    let at : c.event-item.result ≡ slice_index_or es i c.event-item.result = search in
    All-more IsLeave es i c.event-item.result (omega arith) c.loop-event.invariant (subst IsLeave at leave)

pub returns : goal.returns
returns c =
    let most : length c.args.events.now ≤ c.loop-event.event-index = omega arith in
    record { value = λ t. subst (λ (es : List Event). All IsLeave es) (take_all c.loop-event.event-index c.args.events.now most) c.loop-event.invariant }
