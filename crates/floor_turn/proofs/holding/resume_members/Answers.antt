use Rattle.floor_connections.proofs.Steps.{steps_then}
use Rattle.floor_turn.proofs.holding.resume_members.Goals as goal

pub loop-one-preserved : goal.loop-one-preserved
loop-one-preserved c = steps_then c.args.connections.now.sockets c.loop-one.connections.sockets c.resume_member.new.connections.sockets c.loop-one.invariant c.resume_member.ensures.steps
