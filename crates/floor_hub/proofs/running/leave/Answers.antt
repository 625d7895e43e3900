use Rattle.floor_hub.specs.Connections.{connection_at}
use Rattle.floor_hub.specs.Rooms.{refusal_in}
use Rattle.floor_hub.specs.Calls.{FailsGone}
use Rattle.floor_hub.specs.declared.step.Step.TheVariants.{Leave}
use Rattle.floor_hub.specs.declared.step.Answer.TheVariants.{Done}
use Rattle.floor_hub.proofs.Advancing.{fails_gone, further, whole_of}
use Rattle.floor_hub.proofs.running.leave.Goals as goal

pub returns : goal.returns
returns c = λ places. further c.args.hub.now c.leave.new.self (Leave c.args.number) (λ v. Done)
    (λ w. FailsGone c.leave.new.self w (Leave c.args.number)) c.leave.result c.done.result places (λ v. tt) c.done.ensures.value c.leave.ensures.next
    (λ w. fails_gone c.leave.new.self w (Leave c.args.number)) (whole_of _ (refusal_in c.leave.result) _ (connection_at c.args.hub.now.connections c.args.number) c.args.hub.now c.leave.new.self c.leave.ensures.room c.leave.ensures.forgotten)
