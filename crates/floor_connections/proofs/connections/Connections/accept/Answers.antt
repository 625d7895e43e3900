use Rattle.std.proofs.Common.{refl}
use Rattle.floor_sockets.specs.Runs.{Accepted}
use Rattle.floor_connections.proofs.Steps.{steps_by, steps_same, steps_then}
use Rattle.floor_connections.proofs.connections.Connections.accept.Goals as goal

pub returns-in-Failing-clause-steps : goal.returns-in-Failing-clause-steps
returns-in-Failing-clause-steps c = steps_then c.args.self.now.sockets c.accepted.new.self c.tell.new.self.sockets (steps_by (Accepted c.args.listener) c.args.self.now.sockets c.accepted.new.self (λ slot. refl) c.accepted.ensures.took) (steps_same c.accepted.new.self c.tell.new.self.sockets c.tell.ensures.sockets)

pub returns-in-Wanted-clause-steps : goal.returns-in-Wanted-clause-steps
returns-in-Wanted-clause-steps c = steps_by (Accepted c.args.listener) c.args.self.now.sockets c.accepted.new.self (λ slot. refl) c.accepted.ensures.took
