use Rattle.std.proofs.Common.{refl, sym, inl, inr, ap, ◌∙◌}
use Rattle.floor_sockets.specs.Runs.{Fail}
use Rattle.floor_sockets.specs.Sockets.{life_at}
use Rattle.floor_connections.specs.Table.{peer_of, socket_at}
use Rattle.floor_connections.proofs.Ending.{ends_by}
use Rattle.floor_connections.proofs.Steps.{steps_more}
use Rattle.floor_turn.proofs.Entering.{turned_there}
use Rattle.floor_turn.proofs.Moving.{moves_same}
use Rattle.floor_turn.proofs.Sparing.{free_same}
use Rattle.floor_turn.proofs.server.Server.enter_or_wait.Goals as goal

pub returns-then-not-is_held-clause-entered : goal.returns-then-not-is_held-clause-entered
returns-then-not-is_held-clause-entered c = λ peer at. inl (sym c.is_held.ensures.value ∙ c.if-not-is_held.true, c.enter.ensures.entered peer at)

pub returns-then-not-is_held-clause-spares : goal.returns-then-not-is_held-clause-spares
returns-then-not-is_held-clause-spares c = c.enter.ensures.spares (sym c.is_held.ensures.value ∙ c.if-not-is_held.true)

pub returns-in-Ok-clause-entered : goal.returns-in-Ok-clause-entered
returns-in-Ok-clause-entered c = λ peer at. inr (sym c.is_held.ensures.value ∙ c.if-not-is_held.false, refl, inl (c.in-Ok.ensures.waits peer at))

pub returns-in-Ok-clause-moves : goal.returns-in-Ok-clause-moves
returns-in-Ok-clause-moves c = moves_same c.args.self.now.meetings c.args.self.now.meetings refl

pub returns-in-Ok-clause-spares : goal.returns-in-Ok-clause-spares
returns-in-Ok-clause-spares c = free_same c.args.self.now.connections.conferences c.args.self.now.meetings c.args.self.now.meetings refl

pub returns-in-Err-clause-entered : goal.returns-in-Err-clause-entered
returns-in-Err-clause-entered c = λ peer at. inr (
  sym c.is_held.ensures.value ∙ c.if-not-is_held.false,
  refl,
  inr (record {
    there = turned_there (socket_at c.wait.new.self.table c.args.socket) (socket_at c.turn_away.new.self.table c.args.socket) peer (ap peer_of (c.in-Err.ensures.left c.args.socket) ∙ at) c.turn_away.ensures.here;
    over = ends_by (life_at c.wait.new.self.sockets c.args.socket) (life_at c.turn_away.new.self.sockets c.args.socket) c.turn_away.ensures.failed.here;
  }),
)

pub returns-in-Err-clause-moves : goal.returns-in-Err-clause-moves
returns-in-Err-clause-moves c = moves_same c.args.self.now.meetings c.args.self.now.meetings refl

pub returns-in-Err-clause-spares : goal.returns-in-Err-clause-spares
returns-in-Err-clause-spares c = free_same c.args.self.now.connections.conferences c.args.self.now.meetings c.args.self.now.meetings refl

pub returns-in-Err-clause-steps : goal.returns-in-Err-clause-steps
returns-in-Err-clause-steps c = steps_more (Fail c.args.socket) c.args.self.now.connections.sockets c.wait.new.self.sockets c.turn_away.new.self.sockets (λ slot. refl) c.wait.ensures.steps c.turn_away.ensures.failed
