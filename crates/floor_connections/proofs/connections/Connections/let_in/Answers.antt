use Rattle.std.proofs.Common.{refl}
use Rattle.floor_sockets.specs.declared.role.Role.TheVariants.{MemberByDoor}
use Rattle.floor_sockets.specs.Runs.{BecomeRole}
use Rattle.floor_connections.proofs.Steps.{steps_by}
use Rattle.floor_connections.proofs.connections.Connections.let_in.Goals as goal

pub returns-clause-steps : goal.returns-clause-steps
returns-clause-steps c = steps_by (BecomeRole c.args.slot MemberByDoor c.group-group.result) c.args.self.now.sockets c.become_role.new.self (λ slot. refl) c.become_role.ensures.took
