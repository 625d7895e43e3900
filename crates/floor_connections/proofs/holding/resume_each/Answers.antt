use Rattle.std.proofs.Common.{refl}
use Rattle.std.specs.Prelude.{false}
use Rattle.floor_sockets.specs.Runs.{Hold}
use Rattle.floor_connections.proofs.Steps.{steps_more}
use Rattle.floor_connections.proofs.holding.resume_each.Goals as goal

pub loop-slot-preserved : goal.loop-slot-preserved
loop-slot-preserved c = steps_more (Hold _ false) c.args.sockets.now c.loop-slot.sockets c.hold.new.self (λ slot. refl) c.loop-slot.invariant c.hold.ensures.took
