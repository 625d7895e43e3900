use Rattle.floor_connections.proofs.Steps.{steps_same, steps_then}
use Rattle.floor_turn.proofs.server.Server.stop.Goals as goal

pub returns-in-Starting-clause-steps : goal.returns-in-Starting-clause-steps
returns-in-Starting-clause-steps c = steps_then c.args.self.now.connections.sockets c.pass.new.self.sockets c.tell.new.self.sockets c.pass.ensures.steps (steps_same c.pass.new.self.sockets c.tell.new.self.sockets c.tell.ensures.sockets)
