use Rattle.std.proofs.Common.{◌≡◌, None, ap, refl, ◌∙◌}
use Rattle.floor_config.specs.declared.users.User.{User}
use Rattle.floor_machine.specs.declared.decision.Change.TheVariants as to
use Rattle.floor_machine.specs.declared.event.Event.TheVariants.{AddUser}
use Rattle.floor_machine.specs.Machine.{event_refusal}
use Rattle.floor_machine.specs.steps.Deciding.{changing}
use Rattle.floor_machine.proofs.Tried.{whole_of-free}
use Rattle.floor_machine.proofs.machine.Machine.add_user.Goals as goal

pub take-requires-clause-whole : goal.take-requires-clause-whole
take-requires-clause-whole c =
    let m = c.args.self.now in
    let free : None ≡ event_refusal m (AddUser c.args.user.now) = c.in-None.ensures ∙ ap (λ (u : User). event_refusal m (AddUser u)) c.as_user.ensures.value in
    whole_of-free m (AddUser c.args.user.now) free

pub returns-in-Ok : goal.returns-in-Ok
returns-in-Ok c =
    let m = c.args.self.now in
    let free : None ≡ event_refusal m (AddUser c.args.user.now) = c.in-None.ensures ∙ ap (λ (u : User). event_refusal m (AddUser u)) c.as_user.ensures.value in
    record { tried = c.take.ensures.tried (AddUser c.args.user.now) (refl, c.to.ensures ∙ ap (λ (u : User). changing (to.AddUser u)) c.in-Ok.ensures.value) tt free }
