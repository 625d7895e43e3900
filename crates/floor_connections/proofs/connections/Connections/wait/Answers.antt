use Rattle.std.proofs.Common.{rules, refl, ap}
use Rattle.std.specs.Prelude.{drop, length, true}
use Rattle.floor_sockets.specs.declared.role.Role.TheVariants.{MemberByDoor}
use Rattle.floor_sockets.specs.Runs.{BecomeRole, Came, Hold}
use Rattle.floor_connections.proofs.Steps.{steps_by, steps_more}
use Rattle.floor_connections.specs.Table.{waiting_of}
use Rattle.floor_connections.proofs.connections.Connections.wait.Goals as goal

pub returns-clause-steps : goal.returns-clause-steps
returns-clause-steps c =
    let old = c.args.self.now.sockets in
    steps_more (BecomeRole c.args.slot MemberByDoor c.group-group.result) old c.hold.new.self c.become_role.new.self (λ slot. refl)
    (steps_more (Hold c.args.slot true) old c.came.new.self c.hold.new.self (λ slot. refl)
    (steps_by (Came c.args.slot (length c.args.bytes.now) true) old c.came.new.self (λ slot. refl) c.came.ensures.took) c.hold.ensures.took) c.become_role.ensures.took

pub returns-clause-waits : goal.returns-clause-waits
returns-clause-waits c = λ peer at. record {
  named = _;
  there = ap waiting_of (c.wait.ensures.here peer at);
  who = (refl, refl);
  own = ap (drop c.args.at) (search rules);
}
