use Rattle.std.proofs.Common.{refl}
use Rattle.floor_sockets.specs.Runs.{NothingCame}
use Rattle.floor_connections.proofs.Steps.{steps_more}
use Rattle.floor_turn.proofs.server.Server.client_ended.Goals as goal

pub returns-in-Some-clause-steps : goal.returns-in-Some-clause-steps
returns-in-Some-clause-steps c = steps_more (NothingCame c.args.socket) c.args.self.now.connections.sockets c.pass.new.self.sockets c.nothing.new.self (λ slot. refl) c.pass.ensures.steps c.nothing.ensures.took
