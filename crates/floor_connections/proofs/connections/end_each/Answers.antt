use Rattle.std.proofs.Common.{refl}
use Rattle.std.proofs.Common.{sym, subst}
use Rattle.floor_connections.specs.Steps.{Steps}
use Rattle.floor_connections.proofs.connections.end_each.Goals.{then-is_port_of, else-is_port_of}
use Rattle.floor_sockets.specs.Runs.{Fail}
use Rattle.floor_connections.proofs.Steps.{steps_more}
use Rattle.floor_connections.proofs.connections.end_each.Goals as goal

pub loop-slot-preserved : goal.loop-slot-preserved
loop-slot-preserved c = elim c.if-is_port_of.branch [
  | then-is_port_of w ↦ subst (Steps c.args.sockets.now) (sym w.sockets-is) (steps_more (Fail _) c.args.sockets.now c.loop-slot.sockets w.fail.new.self (λ slot. refl) c.loop-slot.invariant w.fail.ensures.took)
  | else-is_port_of w ↦ subst (Steps c.args.sockets.now) (sym w.sockets-is) c.loop-slot.invariant
]
