use Rattle.floor_connections.proofs.Steps.{steps_then}
use Rattle.floor_turn.proofs.server.Server.unaccepted.Goals as goal

pub returns-clause-steps : goal.returns-clause-steps
returns-clause-steps c = steps_then c.args.self.now.connections.sockets c.pass.new.self.sockets c.fail_to_accept.new.self.sockets c.pass.ensures.steps c.fail_to_accept.ensures.steps
