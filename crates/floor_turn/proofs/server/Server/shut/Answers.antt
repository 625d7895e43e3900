use Rattle.std.proofs.Common.{refl, sym, ◌∙◌}
use Rattle.floor_connections.proofs.Steps.{steps_same, steps_then}
use Rattle.floor_turn.proofs.Moving.{moves_same}
use Rattle.floor_turn.proofs.Handing.{never}
use Rattle.floor_turn.proofs.Sparing.{free_same}
use Rattle.floor_turn.proofs.server.Server.shut.Goals as goal

pub returns-then-not-is_shutting-clause-moves : goal.returns-then-not-is_shutting-clause-moves
returns-then-not-is_shutting-clause-moves c = moves_same c.args.self.now.meetings c.args.self.now.meetings refl

pub returns-clause-steps : goal.returns-clause-steps
returns-clause-steps c = steps_then c.args.self.now.connections.sockets c.see_off.new.self.connections.sockets c.shut.new.self.sockets (steps_same c.args.self.now.connections.sockets c.see_off.new.self.connections.sockets c.see_off.ensures.sockets) c.shut.ensures.steps

pub returns-then-not-is_shutting-clause-spares : goal.returns-then-not-is_shutting-clause-spares
returns-then-not-is_shutting-clause-spares c = free_same c.args.self.now.connections.conferences c.args.self.now.meetings c.args.self.now.meetings refl

pub returns-then-is_held_at-clause-moves : goal.returns-then-is_held_at-clause-moves
returns-then-is_held_at-clause-moves c = moves_same c.args.self.now.meetings c.args.self.now.meetings refl

pub returns-then-is_held_at-clause-spares : goal.returns-then-is_held_at-clause-spares
returns-then-is_held_at-clause-spares c = free_same c.args.self.now.connections.conferences c.args.self.now.meetings c.args.self.now.meetings refl

pub returns-clause-spares : goal.returns-clause-spares
returns-clause-spares c = c.see_off.ensures.spares (sym c.is_held_at.ensures.value ∙ c.if-is_held_at.false)

pub returns-clause-held : goal.returns-clause-held
returns-clause-held c = λ held. never _ (sym (sym c.is_held_at.ensures.value ∙ c.if-is_held_at.false) ∙ held)
