use Rattle.std.proofs.Common.{List, ◌++◌, ap, append-nil, sym, ◌∙◌}
use Rattle.floor_machine.specs.Parcel.{Parcel}
use Rattle.floor_machine.specs.steps.Telling.{is_concerned, noticed_to}
use Rattle.floor_machine.proofs.Passed.{none-noticed, passed-counted, passed-told}
use Rattle.floor_machine.proofs.tell.backlog.tell_one.Goals as goal

pub returns-then-not-may_be_told-clause-told : goal.returns-then-not-may_be_told-clause-told
returns-then-not-may_be_told-clause-told c =
    let a = c.args in
    let due = a.due.now in
    sym (ap (λ (ps : List Parcel). a.out.now.items ++ ps)
    (passed-told (noticed_to due.conference due.reply.now due.updates.now due.notices.now) (is_concerned due.reply.now due.updates.now due.notices.now)
    (none-noticed due.conference due.reply.now due.updates.now due.notices.now) a.n a.joined.now.members.items a.joined.now.numbered (sym c.may_be_told.ensures ∙ c.if-not-may_be_told.true))
    ∙ append-nil a.out.now.items)

pub returns-then-not-may_be_told-clause-counted : goal.returns-then-not-may_be_told-clause-counted
returns-then-not-may_be_told-clause-counted c =
    let a = c.args in
    let due = a.due.now in
    sym (passed-counted (noticed_to due.conference due.reply.now due.updates.now due.notices.now) (is_concerned due.reply.now due.updates.now due.notices.now)
    (none-noticed due.conference due.reply.now due.updates.now due.notices.now) a.n a.joined.now.members.items a.joined.now.numbered (sym c.may_be_told.ensures ∙ c.if-not-may_be_told.true))
