use Rattle.std.proofs.Common.{ap, refl, ◌∙◌}
use Rattle.floor_machine.specs.declared.decision.Change.TheVariants as to
use Rattle.floor_machine.specs.steps.Serving.{conference_of}
use Rattle.floor_machine.proofs.Addable.{left_addable, queue_addable}
use Rattle.floor_machine.proofs.Asked.{begun}
use Rattle.floor_machine.proofs.Framed.{under_way}
use Rattle.floor_machine.proofs.conference.State.leave.Goals as goal

pub change_left-requires-clause-begun : goal.change_left-requires-clause-begun
change_left-requires-clause-begun c =
    begun (conference_of c.args.self.now) c.in_ok-course.course c.in_ok-course.ensures.queue.ascending c.in_ok-course.ensures.numbers c.in_ok-course.ensures.ended

pub returns : goal.returns
returns c =
    let s = c.args.self.now in
    let t = c.change_left.new.self in
    let course = c.change_left.new.course in
    let changed = c.in_ok-change_left.ensures.changed in
    record {
      taken = under_way s t (to.Leave c.args.n) course c.requires.rest refl changed (ap (λ x. x.items) c.change_left.ensures.before ∙ c.in_ok-course.ensures.before)
          (left_addable (conference_of s) (conference_of t) c.args.n course (queue_addable s c.in_ok-course.ensures.queue) changed);
    }
