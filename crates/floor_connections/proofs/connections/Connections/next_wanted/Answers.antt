use Rattle.std.proofs.Common.{refl}
use Rattle.floor_sockets.specs.Runs.{Fail}
use Rattle.floor_connections.proofs.Steps.{steps_by}
use Rattle.floor_connections.proofs.connections.Connections.next_wanted.Goals as goal

pub returns-then-not-is_serving : goal.returns-then-not-is_serving
returns-then-not-is_serving c = record { listens = refl; conferences = refl; steps = steps_by (Fail c.in_ok-listener.listener) c.args.self.now.sockets c.fail.new.self (λ slot. refl) c.fail.ensures.took }
