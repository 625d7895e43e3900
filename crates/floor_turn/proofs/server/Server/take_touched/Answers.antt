use Rattle.std.proofs.Common.{refl}
use Rattle.floor_connections.proofs.Steps.{steps_same}
use Rattle.floor_turn.proofs.server.Server.take_touched.Goals as goal

pub returns-clause-steps : goal.returns-clause-steps
returns-clause-steps c = steps_same c.args.self.now.connections.sockets c.args.self.now.connections.sockets refl
