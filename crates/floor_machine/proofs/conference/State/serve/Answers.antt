use Rattle.std.proofs.Common.{◌≡◌, ◌++◌, List, Option, sym, ap, subst, ◌∙◌}
use Rattle.std.specs.Prelude.{option_map}
use Rattle.floor_queue.specs.declared.request.Request.{Request}
use Rattle.floor_queue.specs.Queue.{after_settle}
use Rattle.floor_machine.specs.declared.conference.State.{State}
use Rattle.floor_machine.specs.declared.course.Course.{Course}
use Rattle.floor_machine.specs.declared.course.Ended.{Ended}
use Rattle.floor_machine.specs.declared.decision.Decision.{Decision}
use Rattle.floor_machine.specs.declared.replied.Replied.{Replied}
use Rattle.floor_machine.specs.declared.tell.changed.Update.{Update}
use Rattle.floor_machine.specs.declared.tell.renewing.Changes.{Changes}
use Rattle.floor_message.specs.declared.information.Info.{Info}
use Rattle.floor_machine.specs.Conference.{Conference}
use Rattle.floor_machine.specs.Machine.{infos_changed}
use Rattle.floor_machine.specs.steps.Fitting.{AreFit}
use Rattle.floor_machine.specs.steps.Frame.{IsQuiet, IsTaken, IsUnderWay}
use Rattle.floor_machine.specs.steps.Serving.{conference_of, replied_by}
use Rattle.floor_machine.specs.steps.Telling.{AreTold, infos_told}
use Rattle.floor_machine.proofs.Framed.{course-called, course-handed, course-said, served}
use Rattle.floor_machine.proofs.Kept.{quiet-called, quiet-handed, quiet-said}
use Rattle.floor_machine.proofs.Settled.{IsSettledTo}
use Rattle.floor_machine.proofs.Updated.{updates-told}
use Rattle.floor_machine.proofs.conference.State.serve.Goals as goal

pub invariant_of-outcome : goal.invariant_of-outcome
invariant_of-outcome c =
    let S : State = c.args.self.now in
    let d : Decision = c.args.decision in
    let course : Course = c.in-Some.course in
    let before : State = c.change.new.self in
    let changes : Changes = c.in_ok-changes-in-Some.changes in
    let T : Option Course → Type 0 = λ o. IsTaken S d.change before o in
    let way : IsUnderWay S d.change before course = subst T c.in-Some.is c.in_ok-course.ensures.taken in
    let done = c.in_ok-changes-in-Some.ensures in
    let ended : c.deref.result.now ≡ course.ended.items = c.deref.ensures.value ∙ ap (λ x. x.items) c.settle.ensures.ended in
    let rs : List Request = (after_settle before.requests).ongoing in
    let F : Conference → Type 0 = λ x. AreFit x.config.floors c.deref.result.now in
    let P : List Ended → Type 0 = λ ds. AreFit before.config.floors ds in
    let U : List Update → Type 0 = λ us. AreTold before.config rs course.ended.items us in
    let E : List Ended → Type 0 = λ ds. AreTold before.config rs ds changes.updates in
    let C : Conference → Type 0 = λ x. AreTold x.config x.ongoing c.deref.result.now changes.updates in (
      done.rest,
      subst F (sym done.next) (subst P (sym ended) way.known.addable),
      subst C (sym done.next) (subst E (sym ended) (subst U (sym done.updates) (updates-told before.config rs course.ended.items course.before.items course.numbers.items))),
    )

pub returns-in_ok-tell-in-Some-clause-served : goal.returns-in_ok-tell-in-Some-clause-served
returns-in_ok-tell-in-Some-clause-served c = λ e comes.
    let S : State = c.args.self.now in
    let d : Decision = c.args.decision in
    let course : Course = c.in-Some.course in
    let before : State = c.change.new.self in
    let after : State = c.settle.new.self in
    let changes : Changes = c.in_ok-changes-in-Some.changes in
    let T : Option Course → Type 0 = λ o. IsTaken S d.change before o in
    let way : IsUnderWay S d.change before course = subst T c.in-Some.is c.in_ok-course.ensures.taken in
    let done = c.in_ok-changes-in-Some.ensures in
    let to : IsSettledTo before after course changes = record { next = done.next; shows = done.rest.shows; updates = done.updates; floors = done.floors } in
    let ended : c.deref.result.now ≡ course.ended.items = c.deref.ensures.value ∙ ap (λ x. x.items) c.settle.ensures.ended in
    let reply : Option Replied = c.in_ok-reply-in-Some.reply in
    let answer : reply ≡ option_map (replied_by (conference_of after) course.ended.items d.reply) c.args.sender =
    c.in_ok-reply-in-Some.ensures.value ∙ ap (λ (ds : List Ended). option_map (replied_by (conference_of after) ds d.reply) c.args.sender) ended in
    let handed : c.put_shown.new.changed.items ≡ infos_changed (conference_of S) e =
    c.in_ok-put_shown-in-Some.ensures
    ∙ ap (λ (is : List Info). is ++ infos_told c.as_slice.result.now) c.requires.empty
    ∙ ap infos_told c.as_slice.ensures.value
    ∙ course-handed S before after c.args.sender d course changes way to e comes in
    let told = c.in_ok-tell-in-Some.ensures in
    served (conference_of S) e c.args.sender d (conference_of after) (conference_of c.tell.new.self) _ c.args.out.now.items c.tell.new.out.items c.put_shown.new.changed.items comes c.allocator-alloc.ensures.kept
    (course-called S before after c.args.sender d course changes reply c.allocator-alloc.ensures.kept way to done.shown answer c.in_ok-reply-in-Some.ensures.shown told.floors_shown e comes) handed told.told told.counted

pub returns-in_ok-tell-in-Some-clause-said : goal.returns-in_ok-tell-in-Some-clause-said
returns-in_ok-tell-in-Some-clause-said c = λ e comes.
    let S : State = c.args.self.now in
    let d : Decision = c.args.decision in
    let course : Course = c.in-Some.course in
    let before : State = c.change.new.self in
    let after : State = c.settle.new.self in
    let changes : Changes = c.in_ok-changes-in-Some.changes in
    let T : Option Course → Type 0 = λ o. IsTaken S d.change before o in
    let way : IsUnderWay S d.change before course = subst T c.in-Some.is c.in_ok-course.ensures.taken in
    let done = c.in_ok-changes-in-Some.ensures in
    let to : IsSettledTo before after course changes = record { next = done.next; shows = done.rest.shows; updates = done.updates; floors = done.floors } in
    let ended : c.deref.result.now ≡ course.ended.items = c.deref.ensures.value ∙ ap (λ x. x.items) c.settle.ensures.ended in
    let reply : Option Replied = c.in_ok-reply-in-Some.reply in
    let answer : reply ≡ option_map (replied_by (conference_of after) course.ended.items d.reply) c.args.sender =
    c.in_ok-reply-in-Some.ensures.value ∙ ap (λ (ds : List Ended). option_map (replied_by (conference_of after) ds d.reply) c.args.sender) ended in
    c.in_ok-said-in-Some.ensures ∙ course-said S before after c.args.sender d course changes reply way to answer e comes

pub returns-in_ok-tell_reply-in-None-clause-served : goal.returns-in_ok-tell_reply-in-None-clause-served
returns-in_ok-tell_reply-in-None-clause-served c = λ e comes.
    let S : State = c.args.self.now in
    let d : Decision = c.args.decision in
    let after : State = c.change.new.self in
    let T : Option Course → Type 0 = λ o. IsTaken S d.change after o in
    let quiet : IsQuiet S d.change after = subst T c.in-None.is c.in_ok-course.ensures.taken in
    let reply : Option Replied = c.in_ok-reply-in-None.reply in
    let told = c.in_ok-tell_reply-in-None.ensures in
    served (conference_of S) e c.args.sender d (conference_of after) (conference_of c.tell_reply.new.self) _ c.args.out.now.items c.tell_reply.new.out.items c.args.changed.now.items comes c.allocator-alloc.ensures.kept
    (quiet-called S after c.args.sender d reply c.ongoing-ongoing.ensures.kept.ascending c.allocator-alloc.ensures.kept quiet c.in_ok-reply-in-None.ensures.value c.in_ok-reply-in-None.ensures.shown e comes)
    (c.requires.empty ∙ sym (quiet-handed S after c.args.sender d c.ongoing-ongoing.ensures.kept.ascending quiet e comes)) told.told told.counted

pub returns-in_ok-tell_reply-in-None-clause-said : goal.returns-in_ok-tell_reply-in-None-clause-said
returns-in_ok-tell_reply-in-None-clause-said c = λ e comes.
    let S : State = c.args.self.now in
    let d : Decision = c.args.decision in
    let after : State = c.change.new.self in
    let T : Option Course → Type 0 = λ o. IsTaken S d.change after o in
    let quiet : IsQuiet S d.change after = subst T c.in-None.is c.in_ok-course.ensures.taken in
    c.in_ok-said-in-None.ensures ∙ quiet-said S after c.args.sender d c.in_ok-reply-in-None.reply c.ongoing-ongoing.ensures.kept.ascending quiet c.in_ok-reply-in-None.ensures.value e comes
