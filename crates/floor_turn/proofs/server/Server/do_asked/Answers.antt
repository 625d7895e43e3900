use Rattle.std.proofs.Common.{refl}
use Rattle.floor_turn.proofs.Moving.{moves_same}
use Rattle.floor_turn.proofs.Sparing.{free_same}
use Rattle.floor_turn.proofs.server.Server.do_asked.Goals as goal

pub returns-in-Accept-clause-moves : goal.returns-in-Accept-clause-moves
returns-in-Accept-clause-moves c = moves_same c.args.self.now.meetings c.accept_next.new.self.meetings c.accept_next.ensures.meetings

pub returns-in-Read-clause-moves : goal.returns-in-Read-clause-moves
returns-in-Read-clause-moves c = moves_same c.args.self.now.meetings c.read_next.new.self.meetings c.read_next.ensures.meetings

pub returns-in-Write-clause-moves : goal.returns-in-Write-clause-moves
returns-in-Write-clause-moves c = moves_same c.args.self.now.meetings c.args.self.now.meetings refl

pub returns-in-Shut-clause-moves : goal.returns-in-Shut-clause-moves
returns-in-Shut-clause-moves c = moves_same c.args.self.now.meetings c.shut_next.new.self.meetings c.shut_next.ensures.meetings

pub returns-in-Accept-clause-spares : goal.returns-in-Accept-clause-spares
returns-in-Accept-clause-spares c = free_same c.args.self.now.connections.conferences c.args.self.now.meetings c.accept_next.new.self.meetings c.accept_next.ensures.meetings

pub returns-in-Read-clause-spares : goal.returns-in-Read-clause-spares
returns-in-Read-clause-spares c = free_same c.args.self.now.connections.conferences c.args.self.now.meetings c.read_next.new.self.meetings c.read_next.ensures.meetings

pub returns-in-Write-clause-spares : goal.returns-in-Write-clause-spares
returns-in-Write-clause-spares c = free_same c.args.self.now.connections.conferences c.args.self.now.meetings c.args.self.now.meetings refl

pub returns-in-Shut-clause-spares : goal.returns-in-Shut-clause-spares
returns-in-Shut-clause-spares c = free_same c.args.self.now.connections.conferences c.args.self.now.meetings c.shut_next.new.self.meetings c.shut_next.ensures.meetings
