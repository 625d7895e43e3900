use Rattle.std.proofs.Common.{◌<◌, ◌≡◌, ◌∙◌, sym, true, false, length, arith}
use Rattle.floor_machine.specs.steps.Telling.{floor_notice_to, is_noticed}
use Rattle.floor_machine.proofs.Filtered.{step_yes, step_no}
use Rattle.floor_machine.proofs.tell.due.put_floor_notices.Goals as goal
use Rattle.floor_machine.proofs.tell.due.put_floor_notices.Goals.{then-watches+in_ok-put_floor_notice, else-watches}

pub loop-notice-preserved : goal.loop-notice-preserved
loop-notice-preserved c =
    let within : c.loop-notice.notice-index < length c.args.notices.now = omega arith in
    let member = c.args.member.now in
    elim c.if-watches.branch [
      | then-watches+in_ok-put_floor_notice w ↦
          let passes : is_noticed member c.notice-item.result ≡ true = sym c.watches.ensures ∙ w.if-watches.true in
          rw (w.out-is, w.in_ok-put_floor_notice.ensures, c.loop-notice.invariant)
          (step_yes (is_noticed member) (floor_notice_to member) c.args.out.now.items c.args.notices.now c.loop-notice.notice-index c.notice-item.result within c.notice-item.is passes)
      | else-watches w ↦
          let fails : is_noticed member c.notice-item.result ≡ false = sym c.watches.ensures ∙ w.if-watches.false in
          rw (w.out-is, c.loop-notice.invariant)
          (step_no (is_noticed member) (floor_notice_to member) c.args.out.now.items c.args.notices.now c.loop-notice.notice-index c.notice-item.result within c.notice-item.is fails)
    ]
