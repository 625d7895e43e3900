use Rattle.floor_turn.proofs.Moving.{moves_same}
use Rattle.floor_turn.proofs.Sparing.{free_same}
use Rattle.floor_turn.proofs.server.Server.see_off.Goals as goal

pub returns-then-is_at_door-clause-moves : goal.returns-then-is_at_door-clause-moves
returns-then-is_at_door-clause-moves c = moves_same c.args.self.now.meetings c.end_newcomer.new.self.meetings c.end_newcomer.ensures.meetings

pub returns-in-None-clause-moves : goal.returns-in-None-clause-moves
returns-in-None-clause-moves c = moves_same c.args.self.now.meetings c.end_listener.new.self.meetings c.end_listener.ensures.meetings

pub returns-then-is_at_door-clause-spares : goal.returns-then-is_at_door-clause-spares
returns-then-is_at_door-clause-spares c = λ free. free_same c.args.self.now.connections.conferences c.args.self.now.meetings c.end_newcomer.new.self.meetings c.end_newcomer.ensures.meetings

pub returns-in-None-clause-spares : goal.returns-in-None-clause-spares
returns-in-None-clause-spares c = λ free. free_same c.args.self.now.connections.conferences c.args.self.now.meetings c.end_listener.new.self.meetings c.end_listener.ensures.meetings
