use Rattle.std.proofs.Common.{refl}
use Rattle.floor_sockets.specs.Runs.{Shut}
use Rattle.floor_connections.proofs.Steps.{steps_by}
use Rattle.floor_connections.proofs.connections.Connections.shut.Goals as goal

pub returns-clause-steps : goal.returns-clause-steps
returns-clause-steps c = steps_by (Shut c.args.slot) c.args.self.now.sockets c.shut.new.self (λ slot. refl) (record { took = c.shut.ensures.took; not_asked = c.shut.ensures.not_asked; none = c.shut.ensures.none })
