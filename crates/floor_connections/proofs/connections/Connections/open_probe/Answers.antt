use Rattle.std.proofs.Common.{refl}
use Rattle.floor_sockets.specs.Runs.{Fail}
use Rattle.floor_connections.proofs.Steps.{steps_more}
use Rattle.floor_connections.proofs.connections.Connections.open_probe.Goals as goal

pub returns-clause-steps : goal.returns-clause-steps
returns-clause-steps c = steps_more (Fail c.in_ok-slot.slot) c.args.self.now.sockets c.open.new.self.sockets c.fail.new.self (λ slot. refl) c.open.ensures.steps c.fail.ensures.took
