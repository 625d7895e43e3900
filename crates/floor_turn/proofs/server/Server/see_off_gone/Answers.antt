use Rattle.floor_connections.proofs.Steps.{steps_same, steps_then}
use Rattle.floor_turn.proofs.server.Server.see_off_gone.Goals as goal

pub returns-clause-steps : goal.returns-clause-steps
returns-clause-steps c =
    steps_then c.args.self.now.connections.sockets c.see_off.new.self.connections.sockets c.shut.new.self.sockets
    (steps_same c.args.self.now.connections.sockets c.see_off.new.self.connections.sockets c.see_off.ensures.sockets) c.shut.ensures.steps
