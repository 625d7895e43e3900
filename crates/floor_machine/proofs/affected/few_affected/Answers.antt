use Rattle.std.proofs.Common.{◌++◌, List, ap, map, ◌∙◌, ℕ}
use Rattle.std.specs.List.{flat_map}
use Rattle.floor_machine.specs.declared.course.Ended.{Ended}
use Rattle.floor_machine.specs.declared.marks.Mark.{Mark}
use Rattle.floor_machine.proofs.Marked.{are-moved}
use Rattle.floor_machine.proofs.affected.few_affected.Goals as goal

pub returns-clause-moved : goal.returns-clause-moved
returns-clause-moved c =
    are-moved c.args.requests.now.ongoing c.args.course.now c.deref-5.result.now c.deref-6.result.now c.in_ok-few.few
    (c.deref-5.ensures.value ∙ c.in_ok-floors.ensures ∙ ap (λ (ms : List Mark). flat_map (λ m. m.floors) ms) c.deref.ensures.value)
    (c.deref-6.ensures.value
    ∙ c.in_ok-note_ended.ensures
    ∙ ap (λ (ns : List ℕ). ns ++ map (λ d. d.request.number) c.deref-4.result.now) c.in_ok-noted.ensures
    ∙ ap (λ (ms : List Mark). map (λ m. m.number) ms ++ map (λ d. d.request.number) c.deref-4.result.now) c.deref-3.ensures.value
    ∙ ap (λ (ds : List Ended). map (λ m. m.number) c.args.course.now.marks.items ++ map (λ d. d.request.number) ds) c.deref-4.ensures.value)
    c.in_ok-few.ensures.value
