use Rattle.std.proofs.Common.{refl}
use Rattle.floor_sockets.specs.Runs.{Came}
use Rattle.floor_connections.proofs.Steps.{steps_more}
use Rattle.floor_turn.proofs.server.Server.client_came.Goals as goal

pub returns-in-Some-clause-steps : goal.returns-in-Some-clause-steps
returns-in-Some-clause-steps c = steps_more (Came c.args.socket c.args.count c.args.has_more) c.args.self.now.connections.sockets c.pass.new.self.sockets c.came.new.self (λ slot. refl) c.pass.ensures.steps c.came.ensures.took
