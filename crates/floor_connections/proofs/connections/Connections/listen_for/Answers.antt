use Rattle.std.proofs.Common.{refl}
use Rattle.floor_sockets.specs.Runs.{Fail}
use Rattle.floor_connections.proofs.Steps.{steps_more}
use Rattle.floor_connections.proofs.connections.Connections.listen_for.Goals as goal

pub returns-in-Err-clause-steps : goal.returns-in-Err-clause-steps
returns-in-Err-clause-steps c = steps_more (Fail c.in_ok-slot.slot) c.args.self.now.sockets c.listen.new.self.sockets c.fail.new.self (λ slot. refl) c.listen.ensures.steps c.fail.ensures.took
