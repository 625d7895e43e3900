use Rattle.floor_connections.proofs.Steps.{steps_same, steps_then}
use Rattle.floor_turn.proofs.server.Server.see_to_leaving.Goals as goal

pub returns-in_default-clause-steps : goal.returns-in_default-clause-steps
returns-in_default-clause-steps c = steps_same c.args.self.now.connections.sockets c.next_leaving.new.self.sockets c.next_leaving.ensures.sockets

pub returns-clause-steps : goal.returns-clause-steps
returns-clause-steps c = steps_then c.args.self.now.connections.sockets c.next_leaving.new.self.sockets c.close_idle.new.connections.sockets (steps_same c.args.self.now.connections.sockets c.next_leaving.new.self.sockets c.next_leaving.ensures.sockets) c.close_idle.ensures.steps
