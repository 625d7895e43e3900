use Rattle.floor_hub.specs.Connections.{connection_at}
use Rattle.floor_hub.specs.Rooms.{refusal_in}
use Rattle.floor_hub.specs.Calls.{Fails}
use Rattle.floor_hub.specs.declared.step.Step.TheVariants.{Took}
use Rattle.floor_hub.specs.declared.step.Answer.TheVariants.{Done}
use Rattle.floor_hub.proofs.Advancing.{fails, further, whole_of}
use Rattle.floor_hub.proofs.running.took.Goals as goal

pub returns : goal.returns
returns c = λ places. further c.args.hub.now c.took.new.self (Took c.args.number c.args.k) (λ v. Done)
    (λ w. Fails c.took.new.self w (Took c.args.number c.args.k)) c.took.result c.done.result places (λ v. tt) c.done.ensures.value c.took.ensures.next
    (λ w. fails c.took.new.self w (Took c.args.number c.args.k)) (whole_of _ (refusal_in c.took.result) _ (connection_at c.args.hub.now.connections c.args.number) c.args.hub.now c.took.new.self c.took.ensures.room c.took.ensures.forgotten)
