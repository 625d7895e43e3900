use Rattle.std.proofs.Common.{◌<◌, ◌∙◌, sym, ap, length, arith}
use Rattle.floor_machine.specs.steps.Telling.{shows_user}
use Rattle.floor_machine.proofs.Filtered.{kept_yes, kept_no}
use Rattle.floor_machine.proofs.information.copying.infos_with_user.Goals as goal
use Rattle.floor_machine.proofs.information.copying.infos_with_user.Goals.{then-shows_user+in_ok-copy+in_ok-push, else-shows_user}

pub loop-shared-preserved : goal.loop-shared-preserved
loop-shared-preserved c =
    let within : c.loop-shared.shared-index < length c.args.infos.now = omega arith in
    let there = sym (ap (shows_user c.args.user) c.as_info-info.ensures.value) ∙ sym c.shows_user.ensures in
    elim c.if-shows_user.branch [
      | then-shows_user+in_ok-copy+in_ok-push w ↦
          rw (w.own-is, w.in_ok-push.ensures.items, w.in_ok-copy.ensures.value, c.as_info-info.ensures.value, c.loop-shared.invariant)
          (sym (kept_yes (shows_user c.args.user) c.args.infos.now c.loop-shared.shared-index c.shared-item.result within c.shared-item.is (there ∙ w.if-shows_user.true)))
      | else-shows_user w ↦
          rw (w.own-is, c.loop-shared.invariant)
          (sym (kept_no (shows_user c.args.user) c.args.infos.now c.loop-shared.shared-index c.shared-item.result within c.shared-item.is (there ∙ w.if-shows_user.false)))
    ]
