use Rattle.std.proofs.Common.{refl}
use Rattle.floor_sockets.specs.Runs.{Served}
use Rattle.floor_connections.proofs.Steps.{steps_by}
use Rattle.floor_turn.proofs.server.Server.client_served.Goals as goal

pub returns-in-Some-clause-steps : goal.returns-in-Some-clause-steps
returns-in-Some-clause-steps c = steps_by (Served c.args.socket c.args.has_more) c.args.self.now.connections.sockets c.served.new.self (λ slot. refl) c.served.ensures.took
