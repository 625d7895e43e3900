use Rattle.std.proofs.Common.{ℕ, ◌+◌, ◌++◌, ◌∷◌, [], List, Option, sym, ap, subst, ◌∙◌}
use Rattle.std.specs.Option.{option_map_or}
use Rattle.floor_queue.specs.Queue.{Queue, first_request}
use Rattle.floor_queue.specs.declared.request.Request.{Request}
use Rattle.floor_machine.specs.declared.marks.Mark.{Mark}
use Rattle.floor_machine.specs.steps.Marks.{KeepsNoted, mark_of, marks_at}
use Rattle.floor_machine.proofs.Asked.{none-next, on_ok}
use Rattle.floor_machine.proofs.Noting.{found-added, noted-added}
use Rattle.floor_machine.proofs.change.floor_request.add_request.Goals as goal

pub returns-clause-noted : goal.returns-clause-noted
returns-clause-noted c =
    let q : Queue = c.args.requests.now in
    let r : Request = first_request q.floors (q.given + 1) c.args.new in
    let marks : List Mark = c.args.marks.now.items in
    let K : Queue → Type 0 = λ x. KeepsNoted q.ongoing marks x.ongoing c.mark_ongoing.new.marks.items in
    on_ok c.mark_ongoing.result (λ put. subst K (sym c.in_ok-number.ensures.next)
    (noted-added q.ongoing r marks c.mark_ongoing.new.marks.items
    (put
    ∙ ap (λ (x : Queue). marks ++ marks_at x.ongoing c.in_ok-number.number) c.in_ok-number.ensures.next
    ∙ ap (λ (n : ℕ). marks ++ marks_at (q.ongoing ++ r ∷ []) n) c.in_ok-number.ensures.number
    ∙ ap (λ (o : Option Request). marks ++ option_map_or (λ x. mark_of x ∷ []) o []) (found-added q.ongoing r (none-next q.given q.ongoing c.ongoing-ongoing.ensures.kept.numbers)))))
    c.mark_ongoing.ensures
