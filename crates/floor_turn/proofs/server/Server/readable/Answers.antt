use Rattle.std.proofs.Common.{refl}
use Rattle.floor_sockets.specs.Runs.{Readable}
use Rattle.floor_connections.proofs.Steps.{steps_by}
use Rattle.floor_turn.proofs.server.Server.readable.Goals as goal

pub returns-in-None-clause-steps : goal.returns-in-None-clause-steps
returns-in-None-clause-steps c = steps_by (Readable c.args.socket c.args.ends) c.args.self.now.connections.sockets c.readable.new.self (λ slot. refl) c.readable.ensures.took
