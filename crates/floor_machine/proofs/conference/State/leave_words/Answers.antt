use Rattle.std.proofs.Common.{◌≡◌, ◌∙◌, refl, sym, subst, ap, map}
use Rattle.floor_queue.specs.Queue.{Queue}
use Rattle.floor_machine.specs.declared.course.Course.{Course}
use Rattle.floor_machine.specs.declared.conference.State.{State}
use Rattle.floor_machine.specs.declared.decision.Change.TheVariants.{Words}
use Rattle.floor_machine.specs.Conference.{Conference}
use Rattle.floor_machine.specs.Change.{decided_at, no_change, reasoned, reasoned_among}
use Rattle.floor_machine.specs.steps.Deciding.{change_words}
use Rattle.floor_machine.specs.steps.Marks.{AreNoted}
use Rattle.floor_machine.specs.steps.Serving.{IsChanged, conference_of, with_requests}
use Rattle.floor_machine.proofs.Addable.{addable, fit-words}
use Rattle.floor_machine.proofs.Allowed.{may_words}
use Rattle.floor_machine.proofs.Asked.{begun, begun-reasoned, changed-words}
use Rattle.floor_machine.proofs.Framed.{under_way}
use Rattle.floor_machine.proofs.Reasoned.{ascending-reasoned}
use Rattle.floor_machine.proofs.conference.State.leave_words.Goals as goal

pub leave_words-requires : goal.leave_words-requires
leave_words-requires c = λ i d within.
    c.in_ok-give_reason.ensures.still _ (may_words c.args.self.now.requests c.args.request c.args.verdicts.now c.requires.decide c.requires.words i d within)

pub returns : goal.returns
returns c =
    let s : State = c.args.self.now in
    let S : Conference = conference_of s in
    let request = c.args.request in
    let verdicts = c.args.verdicts.now in
    let reason = c.args.reason in
    let q : Queue = record s.requests { ongoing = reasoned_among request reason s.requests.ongoing } in
    let words : Queue → Queue = λ x. record x { ongoing = map (decided_at request verdicts) x.ongoing } in
    let course = c.in_ok-course.course in
    let begins : IsChanged S (no_change S) S course = begun S course c.in_ok-course.ensures.queue.ascending c.in_ok-course.ensures.numbers c.in_ok-course.ensures.ended in
    let given = c.in_ok-give_reason.ensures in
    let reasons : Course = record course { marks = c.give_reason.new.marks } in
    let G : Queue → Type 0 = λ x. AreNoted s.config.floors s.requests.ongoing x.ongoing c.give_reason.new.marks.items in
    let noted = subst G given.next (given.noted s.config.floors s.requests.ongoing begins.noted) in
    let told : IsChanged S (no_change (reasoned S request reason)) (reasoned S request reason) reasons =
    begun-reasoned S course reasons request reason c.in_ok-course.ensures.queue.ascending begins refl refl noted in
    let done = c.in_ok-leave_words.ensures in
    let after : Course = record course { marks = c.leave_words.new.marks } in
    let left : c.leave_words.new.requests ≡ words q = done.next ∙ ap words given.next in
    let Q : Queue → Type 0 = λ x. IsChanged S (change_words (reasoned S request reason) request verdicts) (with_requests S x) after in
    let N : Queue → Type 0 = λ x. AreNoted s.config.floors s.requests.ongoing x.ongoing c.leave_words.new.marks.items in
    let changed : IsChanged S (change_words (reasoned S request reason) request verdicts) (with_requests S c.leave_words.new.requests) after =
    subst Q (sym left)
    (changed-words S (reasoned S request reason) reasons after request verdicts
    (ascending-reasoned request reason s.requests.ongoing ∙ c.in_ok-course.ensures.queue.ascending) told refl refl
    (subst N left (done.noted s.config.floors s.requests.ongoing (given.noted s.config.floors s.requests.ongoing begins.noted)))) in
    record {
      taken = under_way s _ (Words request verdicts reason) after c.requires.rest refl changed c.in_ok-course.ensures.before
          (addable S (with_requests S c.leave_words.new.requests) (change_words (reasoned S request reason) request verdicts) after (fit-words S request verdicts reason) changed);
    }
