use Rattle.std.proofs.Common.{◌≡◌, ℕ, ◌++◌, List, refl, sym, ap, subst, ◌∙◌}
use Rattle.std.specs.List.{flat_map}
use Rattle.floor_queue.specs.declared.request.Request.{Request}
use Rattle.floor_queue.specs.Order.{due_numbers, settle}
use Rattle.floor_queue.specs.Queue.{Queue}
use Rattle.floor_message.specs.declared.information.Info.{Info}
use Rattle.floor_machine.specs.declared.course.Course.{Course}
use Rattle.floor_machine.specs.declared.marks.Mark.{Mark}
use Rattle.floor_machine.specs.steps.Marks.{marks_waiting}
use Rattle.floor_machine.specs.steps.Renewing.{IsCourse}
use Rattle.floor_machine.proofs.Courses.{course-settled}
use Rattle.floor_machine.proofs.conference.State.settle.Goals as goal

pub renew-requires-clause-course : goal.renew-requires-clause-course
renew-requires-clause-course c =
    let config = c.args.self.now.config in
    let q : Queue = c.args.self.now.requests in
    let course : Course = c.args.course.now in
    let marks : List Mark = course.marks.items in
    let course' : Course = record { before = c.swap.new.y; numbers = course.numbers; ended = course.ended; marks = c.mark_granted.new.marks } in
    let settled : List Request = settle q.floors q.ongoing in
    let marked : c.mark_granted.new.marks.items ≡ marks ++ flat_map (marks_waiting settled) (due_numbers q.floors q.ongoing) =
    c.in_ok-mark_granted.ensures
    ∙ ap (λ (x : Queue). marks ++ flat_map (marks_waiting x.ongoing) c.as_slice.result.now) c.in_ok-granted.ensures.next
    ∙ ap (λ (ns : List ℕ). marks ++ flat_map (marks_waiting settled) ns) (c.as_slice.ensures ∙ c.in_ok-granted.ensures.granted) in
    let S : List Info → Type 0 = λ shown. IsCourse config settled shown course' in
    let Q : Queue → Type 0 = λ x. IsCourse config x.ongoing c.swap.new.x.items course' in
    subst Q (sym c.in_ok-granted.ensures.next)
    (subst S (sym (ap (λ x. x.items) c.swap.ensures.x_after))
    (course-settled config q.floors q.ongoing course.before.items course course' c.args.self.now.same_floors c.ongoing-ongoing.ensures.kept.ascending c.requires.course refl refl marked))
