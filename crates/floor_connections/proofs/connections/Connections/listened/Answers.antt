use Rattle.std.proofs.Common.{refl}
use Rattle.floor_sockets.specs.Runs.{Fail}
use Rattle.floor_connections.proofs.Steps.{steps_more, steps_same}
use Rattle.floor_connections.proofs.connections.Connections.listened.Goals as goal

pub returns-clause-steps : goal.returns-clause-steps
returns-clause-steps c = steps_more (Fail c.args.listener) c.args.self.now.sockets c.tell-2.new.self.sockets c.fail.new.self (λ slot. refl) (steps_same c.args.self.now.sockets c.tell-2.new.self.sockets c.tell-2.ensures.sockets) c.fail.ensures.took
