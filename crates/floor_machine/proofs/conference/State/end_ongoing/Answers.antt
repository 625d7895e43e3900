use Rattle.std.proofs.Common.{◌∙◌, refl, sym, subst, ap}
use Rattle.std.specs.Prelude.{◌≡◌, ◌++◌, ◌∷◌, [], IfSome, IsSome}
use Rattle.floor_queue.specs.Queue.{Queue, after_end, request_at}
use Rattle.floor_machine.specs.declared.course.Course.{Course}
use Rattle.floor_machine.specs.declared.conference.State.{State}
use Rattle.floor_machine.specs.declared.decision.Change.TheVariants.{End}
use Rattle.floor_machine.specs.Conference.{Conference}
use Rattle.floor_machine.specs.Change.{no_change, reasoned, reasoned_among}
use Rattle.floor_machine.specs.steps.Ending.{change_ending, ending_by}
use Rattle.floor_machine.specs.steps.Marks.{AreNoted}
use Rattle.floor_machine.specs.steps.Serving.{IsChanged, conference_of, with_requests}
use Rattle.floor_machine.proofs.Addable.{addable, fit-ended, queue_addable}
use Rattle.floor_machine.proofs.Asked.{begun, begun-reasoned, changed-end}
use Rattle.floor_machine.proofs.Framed.{under_way}
use Rattle.floor_machine.proofs.Reasoned.{ascending-reasoned}
use Rattle.floor_machine.proofs.conference.State.end_ongoing.Goals as goal

pub returns : goal.returns
returns c =
    let s : State = c.args.self.now in
    let S : Conference = conference_of s in
    let request = c.args.request in
    let reason = c.args.reason in
    let q : Queue = record s.requests { ongoing = reasoned_among request reason s.requests.ongoing } in
    let course = c.in_ok-course.course in
    let begins : IsChanged S (no_change S) S course = begun S course c.in_ok-course.ensures.queue.ascending c.in_ok-course.ensures.numbers c.in_ok-course.ensures.ended in
    let given = c.in_ok-give_reason.ensures in
    let reasons : Course = record course { marks = c.give_reason.new.marks } in
    let G : Queue → Type 0 = λ x. AreNoted s.config.floors s.requests.ongoing x.ongoing c.give_reason.new.marks.items in
    let noted = subst G given.next (given.noted s.config.floors s.requests.ongoing begins.noted) in
    let told : IsChanged S (no_change (reasoned S request reason)) (reasoned S request reason) reasons =
    begun-reasoned S course reasons request reason c.in_ok-course.ensures.queue.ascending begins refl refl noted in
    let done = c.in_ok-end_request.ensures in
    let after : Course = record course { ended = c.end_request.new.ended; marks = c.end_request.new.marks } in
    let left : c.end_request.new.requests ≡ after_end q request = done.next ∙ ap (λ (x : Queue). after_end x request) given.next in
    let Q : Queue → Type 0 = λ x. IsChanged S (change_ending (reasoned S request reason) request c.args.by) (with_requests S x) after in
    let N : Queue → Type 0 = λ x. AreNoted s.config.floors s.requests.ongoing x.ongoing c.end_request.new.marks.items in
    let E : Queue → Type 0 = λ x. IfSome (request_at x.ongoing request) (λ r. c.end_request.new.ended.items ≡ course.ended.items ++ record { request = r; ending = ending_by c.args.by r } ∷ []) in
    let I : Queue → Type 0 = λ x. IsSome (request_at x.ongoing request) in
    let changed : IsChanged S (change_ending (reasoned S request reason) request c.args.by) (with_requests S c.end_request.new.requests) after =
    subst Q (sym left)
    (changed-end S (reasoned S request reason) (ending_by c.args.by) reasons after request
    (ascending-reasoned request reason s.requests.ongoing ∙ c.in_ok-course.ensures.queue.ascending) told (subst I given.next given.still_ongoing) (subst E given.next done.ended) refl
    (subst N left (done.noted s.config.floors s.requests.ongoing (given.noted s.config.floors s.requests.ongoing begins.noted)))) in
    record {
      taken = under_way s _ (End request c.args.by reason) after c.requires.rest refl changed c.in_ok-course.ensures.before
          (addable S (with_requests S c.end_request.new.requests) (change_ending (reasoned S request reason) request c.args.by) after
          (fit-ended S request c.args.by reason c.requires.text (queue_addable s c.in_ok-course.ensures.queue)) changed);
    }
