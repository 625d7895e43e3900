use Rattle.std.proofs.Common.{refl, sym, subst, ◌∙◌}
use Rattle.floor_queue.specs.Queue.{Queue}
use Rattle.floor_machine.specs.declared.course.Course.{Course}
use Rattle.floor_machine.specs.declared.event.Event.TheVariants.{Leave}
use Rattle.floor_machine.specs.Change.{change}
use Rattle.floor_machine.specs.steps.Marks.{AreNoted}
use Rattle.floor_machine.specs.steps.Serving.{IsChanged, conference_of, with_requests}
use Rattle.floor_machine.proofs.Asked.{on_ok_three}
use Rattle.floor_machine.proofs.Left.{changed-absent, changed-present}
use Rattle.floor_machine.proofs.conference.State.change_left.Goals as goal

pub returns-then-is_present-clause-changed : goal.returns-then-is_present-clause-changed
returns-then-is_present-clause-changed c =
    changed-present c.args.self.now c.args.course.now c.args.n c.user_of-user.result c.leave.new.self c.user_of-user.ensures c.requires.queue c.requires.begun c.leave.ensures
    (sym c.if-is_present.true ∙ c.is_present.ensures)

pub returns-clause-changed : goal.returns-clause-changed
returns-clause-changed c =
    let s = c.args.self.now in
    let course : Course = record { before = c.args.course.now.before; numbers = c.args.course.now.numbers; ended = c.release_all_for.new.ended; marks = c.release_all_for.new.marks } in
    let C : Queue → Type 0 = λ q. IsChanged (conference_of s) (change (conference_of s) (Leave c.args.n)) (with_requests (conference_of (record s { members = c.leave.new.self })) q) course in
    let N : Queue → Type 0 = λ q. AreNoted s.config.floors s.requests.ongoing q.ongoing c.release_all_for.new.marks.items in
    on_ok_three c.release_all_for.result (λ next told noted. subst C (sym next)
    (changed-absent s c.args.course.now course c.args.n c.user_of-user.result c.leave.new.self c.user_of-user.ensures c.requires.queue c.requires.begun c.leave.ensures
    (sym c.if-is_present.false ∙ c.is_present.ensures) told refl (subst N next (noted s.config.floors s.requests.ongoing c.requires.begun.noted))))
    c.release_all_for.ensures.next c.release_all_for.ensures.ended c.release_all_for.ensures.noted
