use Rattle.floor_connections.proofs.Steps.{steps_then}
use Rattle.floor_connections.proofs.connections.Connections.listen_all.Goals as goal

pub returns-in-Err-clause-steps : goal.returns-in-Err-clause-steps
returns-in-Err-clause-steps c = steps_then c.args.self.now.sockets c.listen_each.new.self.sockets c.forget.new.self.sockets c.listen_each.ensures.steps c.forget.ensures.steps
