use Rattle.std.proofs.Common.{◌-◌, ℕ, ◌<◌, List, length, take, drop, refl, subst}
use Rattle.floor_machine.specs.declared.event.Event.{Event}
use Rattle.floor_serve.specs.steps.Parts.{FitsAt}
use Rattle.floor_serve.proofs.Ordered.{block-agrees}
use Rattle.floor_serve.proofs.end.finish.all_agree.Goals as goal

pub returns-in-Ascending : goal.returns-in-Ascending
returns-in-Ascending c = λ yes.
    let from = c.block_of-block.result.from in
    let to = c.block_of-block.result.to in
    let part = take (to - from) (drop from c.args.seats.now) in
    block-agrees c.args.booth.now c.args.conference from to c.args.seats.now part c.block_of-block.ensures refl
    (subst (λ (es : List Event). (j : ℕ) → j < length part → FitsAt es part j) c.journal.ensures.value (c.fit_all.ensures yes))
