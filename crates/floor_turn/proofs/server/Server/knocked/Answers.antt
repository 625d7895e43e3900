use Rattle.std.proofs.Common.{refl}
use Rattle.std.specs.Prelude.{false}
use Rattle.floor_sockets.specs.Runs.{Readable}
use Rattle.floor_connections.proofs.Steps.{steps_by}
use Rattle.floor_turn.proofs.server.Server.knocked.Goals as goal

pub returns-in-Some-clause-steps : goal.returns-in-Some-clause-steps
returns-in-Some-clause-steps c = steps_by (Readable c.args.listener false) c.args.self.now.connections.sockets c.readable.new.self (λ slot. refl) c.readable.ensures.took
