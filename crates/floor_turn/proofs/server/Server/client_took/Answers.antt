use Rattle.std.proofs.Common.{refl}
use Rattle.floor_sockets.specs.Runs.{Took}
use Rattle.floor_connections.proofs.Steps.{steps_more}
use Rattle.floor_turn.proofs.server.Server.client_took.Goals as goal

pub returns-in-Some-clause-steps : goal.returns-in-Some-clause-steps
returns-in-Some-clause-steps c = steps_more (Took c.args.socket c.args.count c.args.lent) c.args.self.now.connections.sockets c.pass.new.self.sockets c.took.new.self (λ slot. refl) c.pass.ensures.steps c.took.ensures.took
