use Rattle.floor_hub.specs.Connections.{connection_at}
use Rattle.floor_hub.specs.Rooms.{refusal_in}
use Rattle.floor_hub.specs.Calls.{Fails, answer_of}
use Rattle.floor_hub.specs.declared.step.Served.{Served}
use Rattle.floor_hub.specs.declared.step.Served.TheVariants.{Nothing, Message}
use Rattle.floor_hub.specs.declared.step.Step.TheVariants.{Serve}
use Rattle.floor_hub.proofs.Advancing.{NoNumber, fails, further, whole_of}
use Rattle.floor_hub.proofs.running.serve.Goals as goal

found : (v : Served) → NoNumber (answer_of v)
found Nothing = tt
found Message = tt

pub returns : goal.returns
returns c = λ places. further c.args.hub.now c.serve.new.self (Serve c.args.number) answer_of
    (λ w. Fails c.serve.new.self w (Serve c.args.number)) c.serve.result c.served.result places found c.served.ensures.value c.serve.ensures.next
    (λ w. fails c.serve.new.self w (Serve c.args.number)) (whole_of _ (refusal_in c.serve.result) _ (connection_at c.args.hub.now.connections c.args.number) c.args.hub.now c.serve.new.self c.serve.ensures.room c.serve.ensures.forgotten)
