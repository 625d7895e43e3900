use Rattle.std.proofs.Common.{◌++◌, List, sym, ap, subst, ◌∙◌}
use Rattle.floor_queue.specs.Queue.{Queue}
use Rattle.floor_machine.specs.declared.marks.Mark.{Mark}
use Rattle.floor_machine.specs.steps.Marks.{KeepsNoted, marks_at}
use Rattle.floor_machine.proofs.Asked.{on_ok}
use Rattle.floor_machine.proofs.Noting.{noted-decided}
use Rattle.floor_machine.proofs.change.chair_action.leave_words.Goals as goal

pub returns-clause-noted : goal.returns-clause-noted
returns-clause-noted c =
    let q : Queue = c.args.requests.now in
    let some : List Mark = c.mark_ongoing.new.marks.items in
    let more : List Mark = c.mark_ongoing-2.new.marks.items in
    let K : Queue → Type 0 = λ x. KeepsNoted q.ongoing c.args.marks.now.items x.ongoing more in
    on_ok c.mark_ongoing-2.result (λ put. subst K (sym c.set_words.ensures)
    (noted-decided q.ongoing c.args.request c.args.verdicts.now c.args.marks.now.items some more c.ongoing-ongoing.ensures.kept.ascending c.in_ok-mark_ongoing.ensures
    (put ∙ ap (λ (x : Queue). some ++ marks_at x.ongoing c.args.request) c.set_words.ensures)))
    c.mark_ongoing-2.ensures
