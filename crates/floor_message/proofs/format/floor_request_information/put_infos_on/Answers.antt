use Rattle.std.proofs.Common.{◌<◌, ◌∙◌, Bool, length, sym, arith}
use Rattle.std.specs.Prelude.{◌==◌}
use Rattle.std.specs.List.{list_any}
use Rattle.floor_message.specs.Fits.{PriorityFits}
use Rattle.floor_message.specs.Written.{info_attr}
use Rattle.floor_message.specs.declared.information.Info.{Info}
use Rattle.floor_message.proofs.Named.{all_named, put_named, put_skipped, writable_named}
use Rattle.floor_message.proofs.format.floor_request_information.put_infos_on.Goals as goal
use Rattle.floor_message.proofs.format.floor_request_information.put_infos_on.Goals.{then-names+in_ok-put_info, else-names}

pub put_info-requires-clause-priority : goal.put_info-requires-clause-priority
put_info-requires-clause-priority c =
    let naming : Info → Bool = λ i. list_any (λ f. f.0 == c.args.floor) i.floors in
    all_named PriorityFits naming c.args.infos.now c.loop-shared.shared-index c.as_info-info.result.now c.shared-item.result c.loop-shared-test.true
    (c.as_info-info.ensures.value ∙ c.shared-item.is) (sym c.names.ensures ∙ c.if-names.true) c.requires.priorities

pub put_info-requires-clause-writable : goal.put_info-requires-clause-writable
put_info-requires-clause-writable c =
    let naming : Info → Bool = λ i. list_any (λ f. f.0 == c.args.floor) i.floors in
    writable_named info_attr naming c.args.infos.now c.loop-shared.shared-index c.as_info-info.result.now c.shared-item.result c.loop-shared-test.true
    (c.as_info-info.ensures.value ∙ c.shared-item.is) (sym c.names.ensures ∙ c.if-names.true) c.requires.writable

pub loop-shared-preserved : goal.loop-shared-preserved
loop-shared-preserved c =
    let naming : Info → Bool = λ i. list_any (λ f. f.0 == c.args.floor) i.floors in
    let within : c.loop-shared.shared-index < length c.args.infos.now = omega arith in
    elim c.if-names.branch [
      | then-names+in_ok-put_info w ↦
          rw w.out-is
          (put_named info_attr naming c.args.infos.now c.loop-shared.shared-index c.as_info-info.result.now c.shared-item.result within (c.as_info-info.ensures.value ∙ c.shared-item.is)
          c.args.out.now c.loop-shared.out w.put_info.new.out (sym c.names.ensures ∙ w.if-names.true) c.loop-shared.invariant w.in_ok-put_info.ensures)
      | else-names w ↦
          rw w.out-is
          (put_skipped info_attr naming c.args.infos.now c.loop-shared.shared-index c.as_info-info.result.now c.shared-item.result within (c.as_info-info.ensures.value ∙ c.shared-item.is)
          c.args.out.now c.loop-shared.out (sym c.names.ensures ∙ w.if-names.false) c.loop-shared.invariant)
    ]
