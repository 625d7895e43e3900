use Rattle.std.proofs.Common.{◌∙◌}
use Rattle.floor_connections.proofs.Steps.{steps_then}
use Rattle.floor_turn.proofs.Moving.{moves_then}
use Rattle.floor_turn.proofs.server.Server.see_off_all.Goals as goal

pub loop-member-preserved : goal.loop-member-preserved
loop-member-preserved c = record {
  moves = moves_then c.args.self.now.meetings c.loop-member.self.meetings c.see_off_gone.new.self.meetings c.loop-member.invariant.moves c.see_off_gone.ensures.moves;
  conferences = c.see_off_gone.ensures.conferences ∙ c.loop-member.invariant.conferences;
  steps = steps_then c.args.self.now.connections.sockets c.loop-member.self.connections.sockets c.see_off_gone.new.self.connections.sockets c.loop-member.invariant.steps c.see_off_gone.ensures.steps;
}
