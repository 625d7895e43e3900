use Rattle.std.proofs.Common.{get_or}
use Rattle.floor_config.specs.declared.users.User.{User}
use Rattle.floor_connections.specs.Ports.{HasPort}
use Rattle.floor_connections.proofs.Ports.{kept_port, one_more}
use Rattle.floor_connections.proofs.Steps.{steps_then}
use Rattle.floor_connections.proofs.connections.Connections.listen_each.Goals as goal

pub loop-user-preserved : goal.loop-user-preserved
loop-user-preserved c =
    let new = c.listen_user.new.self in
    record {
      ports = one_more (λ (u : User). HasPort new.table new.sockets c.args.conference u) c.users-user-items.result.now c.loop-user.user-index c.user-item.result c.user-item.is c.loop-user-test.true
          (λ k d less. kept_port c.loop-user.self new c.args.conference (get_or c.users-user-items.result.now k d) c.in_ok-listen_user.ensures.kept (c.loop-user.invariant.ports k d less)) c.in_ok-listen_user.ensures.port;
      users = c.loop-user.invariant.users;
      same = c.loop-user.invariant.same;
      steps = steps_then c.args.self.now.sockets c.loop-user.self.sockets new.sockets c.loop-user.invariant.steps c.listen_user.ensures.steps;
    }

pub returns-in_err-listen_user-clause-steps : goal.returns-in_err-listen_user-clause-steps
returns-in_err-listen_user-clause-steps c = steps_then c.args.self.now.sockets c.loop-user.self.sockets c.listen_user.new.self.sockets c.loop-user.invariant.steps c.listen_user.ensures.steps
