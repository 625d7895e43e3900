use Rattle.std.proofs.Common.{refl}
use Rattle.floor_sockets.specs.Runs.{Fail}
use Rattle.floor_connections.proofs.Steps.{steps_by}
use Rattle.floor_connections.proofs.connections.Connections.close_one.Goals as goal

pub returns-then-is_over-clause-steps : goal.returns-then-is_over-clause-steps
returns-then-is_over-clause-steps c = steps_by (Fail c.args.slot) c.args.self.now.sockets c.fail.new.self (λ slot. refl) c.fail.ensures.took
