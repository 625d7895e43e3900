use Rattle.std.proofs.Common.{List, subst}
use Rattle.floor_machine.specs.declared.act.Act.{Act}
use Rattle.floor_hub.specs.steps.Running.{Goes}
use Rattle.floor_hub.specs.Rooms.{refusal_in}
use Rattle.floor_hub.specs.Calls.{Fails}
use Rattle.floor_hub.specs.declared.connection.Place.{Place}
use Rattle.floor_hub.specs.declared.step.Step.TheVariants.{Admin}
use Rattle.floor_hub.specs.declared.step.Answer.TheVariants.{Done}
use Rattle.floor_hub.proofs.Advancing.{fails, further, whole_one}
use Rattle.floor_hub.proofs.running.admin.Goals as goal

pub returns-in-Ok : goal.returns-in-Ok
returns-in-Ok c =
    subst (λ (x : Act). (places : List Place) → Goes c.args.hub.now c.admin.new.self places places (Admin c.args.conference x) c.done.result) c.in-Ok.ensures.value
    (λ places. further c.args.hub.now c.admin.new.self (Admin c.args.conference c.in-Ok.copy) (λ v. Done)
    (λ w. Fails c.admin.new.self w (Admin c.args.conference c.in-Ok.copy)) c.admin.result c.done.result places (λ v. tt) c.done.ensures.value c.admin.ensures.next
    (λ w. fails c.admin.new.self w (Admin c.args.conference c.in-Ok.copy)) (whole_one _ (refusal_in c.admin.result) _ c.args.conference c.args.hub.now c.admin.new.self c.admin.ensures.room c.admin.ensures.forgotten))
