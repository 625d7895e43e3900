use Rattle.std.proofs.Common.{◌<◌, ◌≡◌, ◌∙◌, ◌++◌, List, ap, append-nil, get_or, map, sym, true, false, length, arith}
use Rattle.floor_machine.specs.declared.tell.changed.Update.{Update}
use Rattle.floor_machine.specs.Journal.{parcel}
use Rattle.floor_machine.specs.steps.Telling.{is_due_to, update_to}
use Rattle.floor_machine.proofs.Concerned.{none-due}
use Rattle.floor_machine.proofs.Filtered.{step_yes, step_no}
use Rattle.floor_machine.proofs.tell.due.put_updates.Goals as goal
use Rattle.floor_machine.proofs.tell.due.put_updates.Goals.{then-is_due_to+in_ok-put_status, else-is_due_to}

pub loop-update-preserved : goal.loop-update-preserved
loop-update-preserved c =
    let items : c.as_slice-update-items.result.now ≡ c.args.updates.now = c.as_slice-update-items.ensures.value in
    let within : c.loop-update.update-index < length c.args.updates.now = omega (arith, ap (λ (us : List Update). length us) items) in
    let is : c.update-item.result ≡ get_or c.args.updates.now c.loop-update.update-index c.update-item.result =
    c.update-item.is ∙ ap (λ (us : List Update). get_or us c.loop-update.update-index c.update-item.result) items in
    let member = c.args.member.now in
    elim c.if-is_due_to.branch [
      | then-is_due_to+in_ok-put_status w ↦
          let passes : is_due_to c.args.reply.now member c.update-item.result ≡ true = sym c.is_due_to.ensures ∙ w.if-is_due_to.true in
          rw (w.out-is, w.in_ok-put_status.ensures, w.notice-head.ensures, c.loop-update.invariant)
          (step_yes (is_due_to c.args.reply.now member) (λ (u : Update). parcel member.n (update_to c.args.conference member u)) c.args.out.now.items c.args.updates.now c.loop-update.update-index c.update-item.result within is passes)
      | else-is_due_to w ↦
          let fails : is_due_to c.args.reply.now member c.update-item.result ≡ false = sym c.is_due_to.ensures ∙ w.if-is_due_to.false in
          rw (w.out-is, c.loop-update.invariant)
          (step_no (is_due_to c.args.reply.now member) (λ (u : Update). parcel member.n (update_to c.args.conference member u)) c.args.out.now.items c.args.updates.now c.loop-update.update-index c.update-item.result within is fails)
    ]

pub returns-then-not-concern : goal.returns-then-not-concern
returns-then-not-concern c =
    let member = c.args.member.now in
    let made = λ (u : Update). parcel member.n (update_to c.args.conference member u) in
    sym (append-nil c.args.out.now.items)
    ∙ ap (λ (us : List Update). c.args.out.now.items ++ map made us) (sym (none-due c.args.reply.now member c.args.updates.now (sym c.concern.ensures ∙ c.if-not-concern.true)))
