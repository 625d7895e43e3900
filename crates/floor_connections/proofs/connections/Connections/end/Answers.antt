use Rattle.std.proofs.Common.{refl}
use Rattle.floor_sockets.specs.Sockets.{life_at}
use Rattle.floor_connections.proofs.Ending.{ends_by}
use Rattle.floor_sockets.specs.Runs.{Fail}
use Rattle.floor_connections.proofs.Steps.{steps_by}
use Rattle.floor_connections.proofs.connections.Connections.end.Goals as goal

pub returns-else-is_some-clause-steps : goal.returns-else-is_some-clause-steps
returns-else-is_some-clause-steps c = steps_by (Fail c.args.slot) c.args.self.now.sockets c.fail.new.self (λ slot. refl) c.fail.ensures.took

pub returns-else-is_some-clause-ends : goal.returns-else-is_some-clause-ends
returns-else-is_some-clause-ends c = ends_by (life_at c.args.self.now.sockets c.args.slot) (life_at c.fail.new.self c.args.slot) c.fail.ensures.took.here
