use Rattle.std.proofs.Common.{refl, drop, sym, ◌∙◌}
use Rattle.std.specs.Prelude.{false, length}
use Rattle.floor_sockets.specs.Runs.{Came as Reads, Fail}
use Rattle.floor_connections.proofs.Steps.{steps_by}
use Rattle.floor_connections.specs.Table.{socket_at}
use Rattle.floor_sockets.specs.Sockets.{life_at}
use Rattle.floor_connections.proofs.Ending.{ends_by}
use Rattle.floor_turn.proofs.Entering.{as_named, turned_there}
use Rattle.floor_turn.specs.Entering.{EntersOrWaits}
use Rattle.floor_turn.proofs.Moving.{moves_same}
use Rattle.floor_turn.proofs.Sparing.{free_same}
use Rattle.floor_turn.proofs.server.Server.act_on.Goals as goal

pub returns-in-Wait-clause-moves : goal.returns-in-Wait-clause-moves
returns-in-Wait-clause-moves c = moves_same c.args.self.now.meetings c.args.self.now.meetings refl

pub returns-in-LetGo-clause-moves : goal.returns-in-LetGo-clause-moves
returns-in-LetGo-clause-moves c = moves_same c.args.self.now.meetings c.args.self.now.meetings refl

pub returns-in-Refuse-clause-moves : goal.returns-in-Refuse-clause-moves
returns-in-Refuse-clause-moves c = moves_same c.args.self.now.meetings c.args.self.now.meetings refl

pub returns-in-Wait-clause-steps : goal.returns-in-Wait-clause-steps
returns-in-Wait-clause-steps c = steps_by (Reads c.args.socket (length c.args.bytes.now) false) c.args.self.now.connections.sockets c.came.new.self (λ slot. refl) c.came.ensures.took

pub returns-in-Enter-clause-entered : goal.returns-in-Enter-clause-entered
returns-in-Enter-clause-entered c = λ peer d u behind at is.
    as_named (λ x y z. EntersOrWaits c.args.socket x y (drop z c.args.bytes.now) c.args.self.now.connections.conferences c.args.self.now.meetings c.enter_or_wait.new.self) c.in-Enter.conference c.in-Enter.user c.in-Enter.at d u behind (sym c.in-Enter.is ∙ is)
    (c.enter_or_wait.ensures.entered peer at)

pub returns-in-LetGo-clause-let_go : goal.returns-in-LetGo-clause-let_go
returns-in-LetGo-clause-let_go c = λ peer at is. (
  record {
    there = turned_there (socket_at c.args.self.now.connections.table c.args.socket) (socket_at c.turn_away.new.self.table c.args.socket) peer at c.turn_away.ensures.here;
    over = ends_by (life_at c.args.self.now.connections.sockets c.args.socket) (life_at c.turn_away.new.self.sockets c.args.socket) c.turn_away.ensures.failed.here;
  },
  refl,
)

pub returns-in-Refuse-clause-refused : goal.returns-in-Refuse-clause-refused
returns-in-Refuse-clause-refused c = λ peer why at is. (
  record {
    there = turned_there (socket_at c.args.self.now.connections.table c.args.socket) (socket_at c.turn_away-in-Refuse.new.self.table c.args.socket) peer at c.turn_away-in-Refuse.ensures.here;
    over = ends_by (life_at c.args.self.now.connections.sockets c.args.socket) (life_at c.turn_away-in-Refuse.new.self.sockets c.args.socket) c.turn_away-in-Refuse.ensures.failed.here;
  },
  refl,
)

pub returns-in-LetGo-clause-steps : goal.returns-in-LetGo-clause-steps
returns-in-LetGo-clause-steps c = steps_by (Fail c.args.socket) c.args.self.now.connections.sockets c.turn_away.new.self.sockets (λ slot. refl) c.turn_away.ensures.failed

pub returns-in-Refuse-clause-steps : goal.returns-in-Refuse-clause-steps
returns-in-Refuse-clause-steps c = steps_by (Fail c.args.socket) c.args.self.now.connections.sockets c.turn_away-in-Refuse.new.self.sockets (λ slot. refl) c.turn_away-in-Refuse.ensures.failed

pub returns-in-Wait-clause-spares : goal.returns-in-Wait-clause-spares
returns-in-Wait-clause-spares c = free_same c.args.self.now.connections.conferences c.args.self.now.meetings c.args.self.now.meetings refl

pub returns-in-LetGo-clause-spares : goal.returns-in-LetGo-clause-spares
returns-in-LetGo-clause-spares c = free_same c.args.self.now.connections.conferences c.args.self.now.meetings c.args.self.now.meetings refl

pub returns-in-Refuse-clause-spares : goal.returns-in-Refuse-clause-spares
returns-in-Refuse-clause-spares c = free_same c.args.self.now.connections.conferences c.args.self.now.meetings c.args.self.now.meetings refl
