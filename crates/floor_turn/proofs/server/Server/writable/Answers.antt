use Rattle.std.proofs.Common.{refl}
use Rattle.floor_sockets.specs.Runs.{Writable}
use Rattle.floor_connections.proofs.Steps.{steps_by}
use Rattle.floor_turn.proofs.server.Server.writable.Goals as goal

pub returns-clause-steps : goal.returns-clause-steps
returns-clause-steps c = steps_by (Writable c.args.socket) c.args.self.now.connections.sockets c.writable.new.self (λ slot. refl) c.writable.ensures.took
