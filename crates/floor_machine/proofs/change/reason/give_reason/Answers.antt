use Rattle.std.proofs.Common.{List, subst, sym}
use Rattle.floor_queue.specs.Queue.{Queue}
use Rattle.floor_machine.specs.declared.marks.Mark.{Mark}
use Rattle.floor_machine.specs.steps.Marks.{KeepsNoted}
use Rattle.floor_machine.proofs.Noting.{noted-reasoned}
use Rattle.floor_machine.proofs.change.reason.give_reason.Goals as goal

pub returns-in_ok-mark_ongoing-in-Some-clause-noted : goal.returns-in_ok-mark_ongoing-in-Some-clause-noted
returns-in_ok-mark_ongoing-in-Some-clause-noted c =
    let q : Queue = c.args.requests.now in
    let marks : List Mark = c.args.marks.now.items in
    let more : List Mark = c.mark_ongoing.new.marks.items in
    let K : Queue → Type 0 = λ x. KeepsNoted q.ongoing marks x.ongoing more in
    subst K (sym c.set_reason.ensures.next)
    (noted-reasoned q.ongoing c.args.request c.in-Some.reason marks more c.requires.ongoing c.in_ok-mark_ongoing-in-Some.ensures)
