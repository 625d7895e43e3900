use Rattle.std.proofs.Common.{◌≡◌, ℕ, List, [], ◌∷◌, ◌++◌, ◌+◌, length, drop, take, ap, sym, ◌∙◌, append-nil}
use Rattle.std.specs.Prelude.{Some}
use Rattle.floor_message.specs.declared.information.Info.{Info}
use Rattle.floor_machine.specs.declared.information.shown.Shown.{Shown}
use Rattle.floor_machine.specs.declared.tell.renewing.Changes.{Changes}
use Rattle.floor_machine.specs.steps.Renewing.{differs, floors_before, info_here, update_from}
use Rattle.floor_machine.specs.steps.Telling.{entry_of_ended, listed, shown_of, update_of}
use Rattle.floor_machine.proofs.Asked.{on_ok, on_ok_both}
use Rattle.floor_machine.proofs.Renewed.{differs-ended, fit-taken, update-differing, update-same}
use Rattle.floor_machine.proofs.tell.renewing.renew_ended.Goals as goal
use Rattle.floor_machine.proofs.tell.renewing.renew_ended.Goals.{then-differs+in_ok-shared+in_ok-push, else-differs}

pub returns-clause-renewed : goal.returns-clause-renewed
returns-clause-renewed c =
    let config = c.args.config.now in
    let d = c.args.ended.now in
    let number = d.request.number in
    let place = c.args.place in
    let before = c.args.infos.now.items in
    let updates = c.args.changes.now.updates in
    let i : Info = c.in_ok-info.info in
    let made : Info → Shown = λ x. record { number = number; requester = d.request.requester; beneficiary = d.request.beneficiary; info = x } in
    let otherwise : differs (info_here before place number) (shown_of config [] (entry_of_ended d)).info ≡ c.differs.result =
    differs-ended config d i place before c.in_ok-info.ensures.value
    ∙ sym (c.differs.ensures ∙ ap (λ (is : List Info). differs (info_here is place i.request) i) c.deref.ensures.value) in
    let put : c.if-differs.changes.updates ≡ updates ++ update_from (info_here before place number) (Some (shown_of config [] (entry_of_ended d))) =
    elim c.if-differs.branch [
      | then-differs+in_ok-shared+in_ok-push w ↦
          update-differing (info_here before place number) (shown_of config [] (entry_of_ended d)) updates c.if-differs.changes.updates
          (otherwise ∙ w.if-differs.true)
          (ap (λ (x : Changes). x.updates) w.changes-is ∙ w.in_ok-push.ensures ∙ ap (λ (x : Info). updates ++ update_of (made x) ∷ []) (w.in_ok-shared.ensures.value ∙ c.in_ok-info.ensures.value))
      | else-differs w ↦
          ap (λ (x : Changes). x.updates) w.changes-is
          ∙ update-same (info_here before place number) (shown_of config [] (entry_of_ended d)) updates (otherwise ∙ w.if-differs.false)
    ] in
    let floors : c.if-differs.changes.floors.items ≡ c.args.changes.now.floors.items =
    elim c.if-differs.branch [
      | then-differs+in_ok-shared+in_ok-push w ↦ ap (λ (x : Changes). x.floors.items) w.changes-is
      | else-differs w ↦ ap (λ (x : Changes). x.floors.items) w.changes-is
    ] in
    let behind = drop (place + length (listed (info_here before place number))) before in
    on_ok_both c.forget.result (λ infos noted. record {
      infos = infos ∙ ap (λ (is : List Info). is ++ behind) (sym (append-nil (take place before)));
      updates = put;
      floors = noted ∙ ap (λ (fs : List ℕ). fs ++ floors_before (info_here before place number)) floors;
    }) c.forget.ensures.infos c.forget.ensures.floors

pub returns-clause-fit : goal.returns-clause-fit
returns-clause-fit c =
    let before = c.args.infos.now.items in
    let place = c.args.place in
    on_ok c.forget.result (fit-taken place (place + length (listed (info_here before place c.args.ended.now.request.number))) before c.forget.new.infos.items) c.forget.ensures.infos
