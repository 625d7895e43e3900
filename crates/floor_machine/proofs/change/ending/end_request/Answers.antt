use Rattle.std.proofs.Common.{sym, subst}
use Rattle.floor_queue.specs.Queue.{Queue}
use Rattle.floor_machine.specs.steps.Marks.{KeepsNoted}
use Rattle.floor_machine.proofs.Noting.{noted-ended}
use Rattle.floor_machine.proofs.change.ending.end_request.Goals as goal

pub returns-clause-noted : goal.returns-clause-noted
returns-clause-noted c =
    let q : Queue = c.args.requests.now in
    let K : Queue → Type 0 = λ x. KeepsNoted q.ongoing c.args.marks.now.items x.ongoing c.mark_request.new.marks.items in
    subst K (sym c.end-request.ensures.next)
    (noted-ended q.ongoing c.args.request c.end-request.result c.args.marks.now.items c.mark_request.new.marks.items c.ongoing-ongoing.ensures.kept.ascending c.end-request.ensures.ended c.in_ok-mark_request.ensures)
