use Rattle.std.proofs.Common.{List, subst}
use Rattle.floor_config.specs.Configuration.{Configuration}
use Rattle.floor_hub.specs.steps.Running.{Goes}
use Rattle.floor_hub.specs.Calls.{FailsSame}
use Rattle.floor_hub.specs.declared.connection.Place.{Place}
use Rattle.floor_hub.specs.declared.step.Step.TheVariants.{Open}
use Rattle.floor_hub.specs.declared.step.Answer.TheVariants.{Done}
use Rattle.floor_hub.proofs.Advancing.{fails_same, further, whole_result}
use Rattle.floor_hub.proofs.running.open.Goals as goal

pub returns-in-Ok : goal.returns-in-Ok
returns-in-Ok c =
    subst (λ (x : Configuration). (places : List Place) → Goes c.args.hub.now c.open.new.self places places (Open x) c.done.result) c.in-Ok.ensures
    (λ places. further c.args.hub.now c.open.new.self (Open c.in-Ok.copy) (λ v. Done)
    (λ w. FailsSame c.open.new.self w (Open c.in-Ok.copy)) c.open.result c.done.result places (λ v. tt) c.done.ensures.value c.open.ensures.next
    (λ w. fails_same c.open.new.self w (Open c.in-Ok.copy)) (λ want. whole_result c.open.result c.in-Ok.copy c.args.hub.now c.open.new.self c.open.ensures.took c.open.ensures.left c.open.ensures.forgotten))
