use Rattle.floor_connections.proofs.Steps.{steps_same, steps_then}
use Rattle.floor_turn.proofs.server.Server.remove_at.Goals as goal

pub returns-clause-steps : goal.returns-clause-steps
returns-clause-steps c =
    steps_then c.args.self.now.connections.sockets c.free_gone.new.connections.sockets c.fail.new.self.sockets
    (steps_then c.args.self.now.connections.sockets c.tell_removed.new.connections.sockets c.free_gone.new.connections.sockets
    (steps_same c.args.self.now.connections.sockets c.tell_removed.new.connections.sockets c.tell_removed.ensures.sockets) c.free_gone.ensures.steps) c.fail.ensures.steps
