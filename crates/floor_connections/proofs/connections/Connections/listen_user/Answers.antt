use Rattle.std.proofs.lemmas.Result.{on_ok_weaker}
use Rattle.floor_connections.proofs.Ports.{added_port}
use Rattle.floor_connections.proofs.connections.Connections.listen_user.Goals as goal

pub returns-in-Some-clause-port : goal.returns-in-Some-clause-port
returns-in-Some-clause-port c = on_ok_weaker c.listen_for.result
    (λ added. added_port c.args.self.now c.listen_for.new.self c.args.conference c.args.group c.in-Some.port added.0 c.args.user.now c.in-Some.is added.1) c.listen_for.ensures.took
