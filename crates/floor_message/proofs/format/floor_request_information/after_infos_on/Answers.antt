use Rattle.std.proofs.Common.{◌<◌, ◌∙◌, Bool, Some, length, map, sym, arith}
use Rattle.std.specs.Prelude.{◌==◌, filter}
use Rattle.std.specs.List.{list_any}
use Rattle.floor_message.specs.Fits.{PriorityFits}
use Rattle.floor_message.specs.Written.{info_attr}
use Rattle.floor_message.specs.declared.information.Info.{Info}
use Rattle.floor_message.proofs.Named.{all_named, named_leaves, named_stopped, skipped_leaves}
use Rattle.floor_message.proofs.Rooms.{leaves_told}
use Rattle.floor_message.proofs.format.floor_request_information.after_infos_on.Goals as goal
use Rattle.floor_message.proofs.format.floor_request_information.after_infos_on.Goals.{then-names+in_ok-left, else-names}

pub after_info-requires : goal.after_info-requires
after_info-requires c =
    let naming : Info → Bool = λ i. list_any (λ f. f.0 == c.args.floor) i.floors in
    all_named PriorityFits naming c.args.infos.now c.loop-shared.shared-index c.as_info-info.result.now c.shared-item.result c.loop-shared-test.true
    (c.as_info-info.ensures.value ∙ c.shared-item.is) (sym c.names.ensures ∙ c.if-names.true) c.requires

pub returns-in_err-left : goal.returns-in_err-left
returns-in_err-left c =
    let naming : Info → Bool = λ i. list_any (λ f. f.0 == c.args.floor) i.floors in
    leaves_told (map info_attr (filter naming c.args.infos.now)) c.args.room c.from_residual.result c.from_residual.ensures
    (named_stopped info_attr naming c.args.infos.now c.loop-shared.shared-index c.as_info-info.result.now c.shared-item.result c.loop-shared-test.true (c.as_info-info.ensures.value ∙ c.shared-item.is)
    c.args.room c.loop-shared.left (sym c.names.ensures ∙ c.if-names.true) c.loop-shared.invariant c.in_err-left.ensures)

pub loop-shared-preserved : goal.loop-shared-preserved
loop-shared-preserved c =
    let naming : Info → Bool = λ i. list_any (λ f. f.0 == c.args.floor) i.floors in
    let within : c.loop-shared.shared-index < length c.args.infos.now = omega arith in
    elim c.if-names.branch [
      | then-names+in_ok-left w ↦
          rw w.left-is
          (named_leaves info_attr naming c.args.infos.now c.loop-shared.shared-index c.as_info-info.result.now c.shared-item.result within (c.as_info-info.ensures.value ∙ c.shared-item.is)
          c.args.room c.loop-shared.left (Some w.in_ok-left.left) (sym c.names.ensures ∙ w.if-names.true) c.loop-shared.invariant w.in_ok-left.ensures)
      | else-names w ↦
          rw w.left-is
          (skipped_leaves info_attr naming c.args.infos.now c.loop-shared.shared-index c.as_info-info.result.now c.shared-item.result within (c.as_info-info.ensures.value ∙ c.shared-item.is)
          c.args.room c.loop-shared.left (sym c.names.ensures ∙ w.if-names.false) c.loop-shared.invariant)
    ]
