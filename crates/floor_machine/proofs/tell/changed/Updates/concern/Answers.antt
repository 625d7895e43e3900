use Rattle.std.proofs.Common.{◌≡◌, ◌∙◌, ℕ, List, ap, subst}
use Rattle.std.specs.Prelude.{◌==◌}
use Rattle.std.specs.List.{list_any}
use Rattle.floor_machine.specs.declared.tell.changed.Update.{Update}
use Rattle.floor_machine.specs.steps.Telling.{is_of}
use Rattle.floor_machine.proofs.Concerned.{noted-of}
use Rattle.floor_machine.proofs.tell.changed.Updates.concern.Goals as goal

pub returns : goal.returns
returns c =
    let user = c.args.user in
    let P : List Update → Type 0 = λ us. c.has_number.result ≡ list_any (is_of user) us in
    subst P c.self.view_is
    (c.has_number.ensures
    ∙ ap (λ (us : List ℕ). list_any (λ u. u == user) us) c.deref.ensures.value
    ∙ noted-of user c.self.inside.users.items c.self.inside.items.items c.self.invariant.1)
