use Rattle.std.proofs.Common.{◌∙◌, ◌++◌, ◌∷◌, [], ℕ, List, ap, sym, subst}
use Rattle.floor_message.specs.Shown.{IsShown}
use Rattle.floor_machine.specs.declared.tell.changed.Update.{Update}
use Rattle.floor_machine.specs.steps.Fitting.{AreUpdatesShown}
use Rattle.floor_machine.specs.steps.Telling.{AreOf, noting}
use Rattle.floor_machine.proofs.Fitting.{all_more}
use Rattle.floor_machine.proofs.Concerned.{of-more}
use Rattle.floor_machine.proofs.tell.changed.Updates.push.Goals as goal

pub invariant_of-self-2 : goal.invariant_of-self-2
invariant_of-self-2 c =
    let r = c.args.request.now in
    let us : List Update = c.self.inside.items.items in
    let u : Update = record { number = r.number; requester = r.requester; beneficiary = r.beneficiary; tell = c.of.result } in
    let users : List ℕ = c.self.inside.users.items in
    let noted =
    c.note_user-2.ensures.value
    ∙ ap (noting r.beneficiary) c.note_user.ensures.value
    ∙ ap (λ (ks : List ℕ). noting r.beneficiary (noting r.requester ks)) c.in_ok-reserve.ensures.items in
    let pushed = c.push_reserved.ensures.items ∙ ap (λ (us : List Update). us ++ u ∷ []) c.in_ok-reserve-2.ensures.items in
    let P : List Update → Type 0 = λ us. AreUpdatesShown us × AreOf c.note_user-2.new.users.items us in
    subst P (sym pushed) (
      all_more (λ u. IsShown u.tell) us u c.self.invariant.0 (subst IsShown (sym c.of.ensures) c.requires),
      subst (λ (ks : List ℕ). AreOf ks (us ++ u ∷ [])) (sym noted) (of-more users us u c.self.invariant.1),
    )
