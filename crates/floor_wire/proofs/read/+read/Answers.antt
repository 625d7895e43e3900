use Rattle.std.proofs.Common.{arith, ap, ◌∙◌, sym, Some, inl, inr, length-drop}
use Rattle.std.proofs.lemmas.List.{take_rest}
use Rattle.std.proofs.lemmas.Result.{err_from_is_err_and}
use Rattle.floor_wire.proofs.ReadSteps.{told_after, told_here_length, told_here_overrun, told_in_group, front_spelled, spelled_more}
use Rattle.floor_wire.proofs.read.+read.Goals as goal

pub front_of-returns-in-Err-BadLength-clause-fault :
    goal.front_of-returns-in-Err-BadLength-clause-fault
front_of-returns-in-Err-BadLength-clause-fault t c =
    told_here_length c.args.base c.args.bytes.now c.requires.some
    (c.in-Err-BadLength.ensures.fault ∙ ap (λ cause. Some cause) c.in-Err-BadLength.field-0-is)

pub front_of-returns-in-Err-Overrun-clause-fault :
    goal.front_of-returns-in-Err-Overrun-clause-fault
front_of-returns-in-Err-Overrun-clause-fault t c =
    told_here_overrun c.args.base c.args.bytes.now c.requires.some
    (c.in-Err-Overrun.ensures.fault ∙ ap (λ cause. Some cause) c.in-Err-Overrun.field-0-is)

pub front_of-returns-in_err-body-clause-fault : goal.front_of-returns-in_err-body-clause-fault
front_of-returns-in_err-body-clause-fault t c =
    let p = err_from_is_err_and c.from_residual.result c.from_residual.ensures.1 in
    rw (p.1, p.2) (elim c.in_err-body.ensures.fault [
      | inl memory ↦ rw memory tt
      | inr w ↦ told_in_group c.in_err-body.field-0.0 c.args.base c.args.bytes.now c.in-Ok.head c.requires.some c.in-Ok.ensures.found.0 c.in-Ok.ensures.found.1
          (sym c.format_of_kind.ensures ∙ w.0) w.1
    ])

pub front_of-returns-clause-found : goal.front_of-returns-clause-found
front_of-returns-clause-found t c =
    front_spelled c.args.bytes.now c.in-Ok.head c.in_ok-body.body c.in-Ok.ensures.found.1 (rw c.format_of_kind.ensures at c.in_ok-body.ensures.found)

pub part_of-returns-in_err-attr-clause-fault : goal.part_of-returns-in_err-attr-clause-fault
part_of-returns-in_err-attr-clause-fault t c =
    let p = err_from_is_err_and c.from_residual.result c.from_residual.ensures.1 in
    rw (p.1, p.2) (told_after c.in_err-attr.field-0.0 c.args.base c.loop-at.at c.args.bytes.now _ c.loop-at.invariant.0 c.loop-at.invariant.1
    (rw (take_rest c.args.bytes.now c.loop-at.at) at c.in_err-attr.ensures.fault))

pub part_of-loop-at-preserved : goal.part_of-loop-at-preserved
part_of-loop-at-preserved t c =
    let found = rw (take_rest c.args.bytes.now c.loop-at.at) at c.in_ok-attr.ensures.found in (
      omega (arith, found.within, length-drop c.loop-at.at c.args.bytes.now, c.loop-at.invariant.0),
      rw c.in_ok-push.ensures.items (spelled_more _ c.in_ok-attr.attr c.loop-at.at c.in_ok-attr.end c.args.bytes.now c.loop-at.invariant.1 found),
    )
