use Rattle.std.proofs.Common.{refl}
use Rattle.std.specs.Prelude.{false, true}
use Rattle.floor_sockets.specs.Runs.{Came, Hold, Served}
use Rattle.floor_connections.proofs.Steps.{steps_by, steps_more}
use Rattle.floor_connections.proofs.connections.Connections.put_off.Goals as goal

pub returns-clause-steps : goal.returns-clause-steps
returns-clause-steps c =
    let old = c.args.self.now.sockets in
    steps_more (Hold c.args.slot true) old c.served.new.self c.hold.new.self (λ slot. refl)
    (steps_more (Served c.args.slot true) old c.came.new.self c.served.new.self (λ slot. refl)
    (steps_by (Came c.args.slot 4096 false) old c.came.new.self (λ slot. refl) c.came.ensures.took) c.served.ensures.took) c.hold.ensures.took
