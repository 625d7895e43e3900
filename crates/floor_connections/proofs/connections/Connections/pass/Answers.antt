use Rattle.std.proofs.Common.{refl}
use Rattle.floor_sockets.specs.Runs.{Time}
use Rattle.floor_connections.proofs.Steps.{steps_by}
use Rattle.floor_connections.proofs.connections.Connections.pass.Goals as goal

pub returns-clause-steps : goal.returns-clause-steps
returns-clause-steps c = steps_by (Time c.args.now) c.args.self.now.sockets c.time.new.self (λ slot. refl) c.time.ensures.next
