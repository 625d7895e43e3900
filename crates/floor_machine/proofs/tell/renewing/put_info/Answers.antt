use Rattle.std.proofs.Common.{◌≡◌, List, ap, sym, ◌∙◌}
use Rattle.std.specs.Prelude.{◌==◌}
use Rattle.floor_message.specs.declared.information.Info.{Info}
use Rattle.floor_machine.specs.steps.Renewing.{info_here}
use Rattle.floor_machine.proofs.Places.{put-stead}
use Rattle.floor_machine.proofs.tell.renewing.put_info.Goals as goal

pub returns-in-Some : goal.returns-in-Some
returns-in-Some c =
    let infos : List Info = c.args.infos.now.items in
    let same : c.as_info.result.now ≡ c.args.info = c.as_info.ensures.value in
    put-stead (λ i. i.request == c.args.info.request) infos c.args.place c.args.info c.in-Some._shown.now
    (sym (c.in-Some.ensures
    ∙ ap (λ (is : List Info). info_here is c.args.place c.as_info.result.now.request) c.deref.ensures.value
    ∙ ap (λ (x : Info). info_here infos c.args.place x.request) same))
