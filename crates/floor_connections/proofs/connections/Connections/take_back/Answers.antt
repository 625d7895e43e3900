use Rattle.std.proofs.Common.{refl}
use Rattle.floor_sockets.specs.Runs.{Fail}
use Rattle.floor_connections.proofs.Steps.{steps_by}
use Rattle.floor_connections.proofs.connections.Connections.take_back.Goals as goal

pub returns-clause-steps : goal.returns-clause-steps
returns-clause-steps c = steps_by (Fail c.args.slot) c.args.self.now.sockets c.fail.new.self (λ slot. refl) c.fail.ensures.took
