use Rattle.std.proofs.Common.{refl}
use Rattle.std.specs.Prelude.{false}
use Rattle.floor_sockets.specs.Runs.{Hold}
use Rattle.floor_connections.proofs.Steps.{steps_by}
use Rattle.floor_connections.proofs.connections.Connections.resume.Goals as goal

pub returns-clause-steps : goal.returns-clause-steps
returns-clause-steps c = steps_by (Hold c.args.slot false) c.args.self.now.sockets c.hold.new.self (λ slot. refl) c.hold.ensures.took
