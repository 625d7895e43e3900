use Rattle.std.proofs.Common.{refl}
use Rattle.floor_sockets.specs.Runs.{NothingCame}
use Rattle.floor_connections.proofs.Steps.{steps_by}
use Rattle.floor_connections.proofs.connections.Connections.end_reading.Goals as goal

pub returns-clause-steps : goal.returns-clause-steps
returns-clause-steps c = steps_by (NothingCame c.args.slot) c.args.self.now.sockets c.nothing.new.self (λ slot. refl) c.nothing.ensures.took
