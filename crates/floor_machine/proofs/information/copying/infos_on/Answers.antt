use Rattle.std.proofs.Common.{◌<◌, ◌∙◌, Bool, sym, ap, length, arith}
use Rattle.std.specs.Prelude.{◌==◌}
use Rattle.std.specs.List.{list_any}
use Rattle.floor_message.specs.declared.information.Info.{Info}
use Rattle.floor_machine.proofs.Filtered.{kept_yes, kept_no}
use Rattle.floor_machine.proofs.information.copying.infos_on.Goals as goal
use Rattle.floor_machine.proofs.information.copying.infos_on.Goals.{then-shows_floor+in_ok-copy+in_ok-push, else-shows_floor}

pub loop-shared-preserved : goal.loop-shared-preserved
loop-shared-preserved c =
    let within : c.loop-shared.shared-index < length c.args.infos.now = omega arith in
    let names : Info → Bool = λ i. list_any (λ f. f.0 == c.args.floor) i.floors in
    let there = sym (ap names c.as_info-info.ensures.value) ∙ sym c.shows_floor.ensures in
    elim c.if-shows_floor.branch [
      | then-shows_floor+in_ok-copy+in_ok-push w ↦
          rw (w.on-is, w.in_ok-push.ensures.items, w.in_ok-copy.ensures.value, c.as_info-info.ensures.value, c.loop-shared.invariant)
          (sym (kept_yes names c.args.infos.now c.loop-shared.shared-index c.shared-item.result within c.shared-item.is (there ∙ w.if-shows_floor.true)))
      | else-shows_floor w ↦
          rw (w.on-is, c.loop-shared.invariant)
          (sym (kept_no names c.args.infos.now c.loop-shared.shared-index c.shared-item.result within c.shared-item.is (there ∙ w.if-shows_floor.false)))
    ]
