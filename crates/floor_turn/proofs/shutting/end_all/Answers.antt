use Rattle.floor_connections.proofs.Steps.{steps_then}
use Rattle.floor_turn.proofs.shutting.end_all.Goals as goal

pub loop-socket-preserved : goal.loop-socket-preserved
loop-socket-preserved c = steps_then c.args.connections.now.sockets c.loop-socket.connections.sockets c.end.new.self.sockets c.loop-socket.invariant c.end.ensures.steps
