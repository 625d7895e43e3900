use Rattle.std.proofs.Common.{refl, sym, subst}
use Rattle.floor_queue.specs.Queue.{Queue}
use Rattle.floor_machine.specs.declared.course.Course.{Course}
use Rattle.floor_machine.specs.declared.decision.Change.TheVariants.{Add}
use Rattle.floor_machine.specs.declared.conference.State.{State}
use Rattle.floor_machine.specs.Change.{no_change}
use Rattle.floor_machine.specs.steps.Deciding.{change_adding}
use Rattle.floor_machine.specs.steps.Marks.{AreNoted}
use Rattle.floor_machine.specs.steps.Serving.{IsChanged, conference_of, with_requests}
use Rattle.floor_machine.proofs.Addable.{addable, fit-added}
use Rattle.floor_machine.proofs.Asked.{begun, changed-add}
use Rattle.floor_machine.proofs.Framed.{under_way}
use Rattle.floor_machine.proofs.conference.State.add_request.Goals as goal

pub returns : goal.returns
returns c =
    let s : State = c.args.self.now in
    let S = conference_of s in
    let course = c.in_ok-course.course in
    let begins : IsChanged S (no_change S) S course = begun S course c.in_ok-course.ensures.queue.ascending c.in_ok-course.ensures.numbers c.in_ok-course.ensures.ended in
    let done = c.in_ok-add_request.ensures in
    let after : Course = record course { numbers = c.add_request.new.numbers; marks = c.add_request.new.marks } in
    let Q : Queue → Type 0 = λ q. IsChanged S (change_adding S c.args.new) (with_requests S q) after in
    let N : Queue → Type 0 = λ q. AreNoted s.config.floors s.requests.ongoing q.ongoing c.add_request.new.marks.items in
    let changed : IsChanged S (change_adding S c.args.new) (with_requests S c.add_request.new.requests) after =
    subst Q (sym done.next)
    (changed-add s course after c.args.new c.in_ok-course.ensures.queue begins done.numbers refl (subst N done.next (done.noted s.config.floors s.requests.ongoing begins.noted))) in
    record { taken = under_way s _ (Add c.args.new) after c.requires.rest refl changed c.in_ok-course.ensures.before (addable S (with_requests S c.add_request.new.requests) (change_adding S c.args.new) after (fit-added S c.args.new) changed) }
