use Rattle.std.proofs.Common.{◌≡◌, ◌∙◌, ◌∷◌, [], List, Some, ap, subst, sym}
use Rattle.std.specs.Prelude.{◌==◌, All, find}
use Rattle.std.proofs.lemmas.List.Elements.{All-cons, All-nil}
use Rattle.floor_message.specs.Shown.{IsShown}
use Rattle.floor_message.specs.declared.tell.Tell.{Tell}
use Rattle.floor_machine.specs.declared.tell.changed.Update.{Update}
use Rattle.floor_machine.specs.steps.Outcomes.{Outcome}
use Rattle.floor_machine.specs.steps.Serving.{status_tells}
use Rattle.floor_machine.proofs.Fitting.{found_all}
use Rattle.floor_machine.proofs.Updated.{status-told}
use Rattle.floor_machine.proofs.outcome.Outcome.status.Goals as goal

pub returns-in_ok-status-in-Some-clause-value : goal.returns-in_ok-status-in-Some-clause-value
returns-in_ok-status-in-Some-clause-value c =
    let s = c.self.inside.state.now in
    let number = c.args.number in
    let u : Update = c.in-Some.update.now in
    let found : find (λ (u : Update). u.number == number) c.self.inside.updates.now ≡ Some u =
    sym (c.in-Some.ensures ∙ ap (λ (us : List Update). find (λ u. u.number == number) us) c.as_slice.ensures.value) in
    let P : Outcome → Type 0 = λ o. c.of_status.result ≡ status_tells o.conference o.ended number in
    subst P c.self.view_is
    (c.of_status.ensures ∙ ap (λ (t : Tell). t ∷ []) c.in_ok-status-in-Some.ensures
    ∙ status-told s.config s.requests.ongoing c.self.inside.ended.now number u (c.self.invariant.2 number u found))

pub returns-in_ok-status-in-Some-clause-shown : goal.returns-in_ok-status-in-Some-clause-shown
returns-in_ok-status-in-Some-clause-shown c =
    let number = c.args.number in
    let u : Update = c.in-Some.update.now in
    let found : find (λ (u : Update). u.number == number) c.self.inside.updates.now ≡ Some u =
    sym (c.in-Some.ensures ∙ ap (λ (us : List Update). find (λ u. u.number == number) us) c.as_slice.ensures.value) in
    let S : List Tell → Type 0 = λ ts. All IsShown ts in
    subst S (sym (c.of_status.ensures ∙ ap (λ (t : Tell). t ∷ []) c.in_ok-status-in-Some.ensures))
    (All-cons IsShown u.tell [] (found_all (λ (u : Update). IsShown u.tell) (λ u. u.number == number) c.self.inside.updates.now u c.as_slice.ensures.kept found) (All-nil IsShown))
