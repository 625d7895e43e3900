use Rattle.floor_connections.proofs.Steps.{steps_then}
use Rattle.floor_turn.proofs.server.Server.remove.Goals as goal

pub returns-in-Some-clause-steps : goal.returns-in-Some-clause-steps
returns-in-Some-clause-steps c = steps_then c.args.self.now.connections.sockets c.pass.new.self.sockets c.remove_at.new.self.connections.sockets c.pass.ensures.steps c.remove_at.ensures.steps

pub returns-in-None-clause-steps : goal.returns-in-None-clause-steps
returns-in-None-clause-steps c = steps_then c.args.self.now.connections.sockets c.pass.new.self.sockets c.remove_away.new.self.connections.sockets c.pass.ensures.steps c.remove_away.ensures.steps
