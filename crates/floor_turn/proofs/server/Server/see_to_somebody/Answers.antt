use Rattle.std.proofs.Common.{◌∙◌, subst}
use Rattle.floor_connections.specs.declared.conferences.Conferences.{Conferences}
use Rattle.floor_connections.proofs.Steps.{steps_then}
use Rattle.floor_turn.specs.Held.{MovesFree}
use Rattle.floor_turn.proofs.Moving.{moves_same, moves_then}
use Rattle.floor_turn.proofs.Sparing.{free_same, free_then}
use Rattle.floor_turn.proofs.server.Server.see_to_somebody.Goals as goal

pub returns-then-see_to_due-clause-moves : goal.returns-then-see_to_due-clause-moves
returns-then-see_to_due-clause-moves c = moves_then c.args.self.now.meetings c.see_to_ready.new.self.meetings c.see_to_due.new.self.meetings c.see_to_ready.ensures.moves c.see_to_due.ensures.moves

pub returns-then-see_to_parting-clause-moves : goal.returns-then-see_to_parting-clause-moves
returns-then-see_to_parting-clause-moves c = moves_then c.args.self.now.meetings c.see_to_due.new.self.meetings c.see_to_parting.new.self.meetings (moves_then c.args.self.now.meetings c.see_to_ready.new.self.meetings c.see_to_due.new.self.meetings c.see_to_ready.ensures.moves c.see_to_due.ensures.moves) c.see_to_parting.ensures.moves

pub returns-then-see_to_waiting-clause-moves : goal.returns-then-see_to_waiting-clause-moves
returns-then-see_to_waiting-clause-moves c =
    moves_then c.args.self.now.meetings c.see_to_parting.new.self.meetings c.see_to_waiting.new.self.meetings
    (moves_then c.args.self.now.meetings c.see_to_due.new.self.meetings c.see_to_parting.new.self.meetings (moves_then c.args.self.now.meetings c.see_to_ready.new.self.meetings c.see_to_due.new.self.meetings c.see_to_ready.ensures.moves c.see_to_due.ensures.moves) (moves_same c.see_to_due.new.self.meetings c.see_to_parting.new.self.meetings ((c.see_to_parting.ensures.none c.if-see_to_parting.false).0))) c.see_to_waiting.ensures.moves

pub returns-then-ends_all-clause-moves : goal.returns-then-ends_all-clause-moves
returns-then-ends_all-clause-moves c =
    moves_then c.args.self.now.meetings c.see_to_due.new.self.meetings c.ends_all.new.self.meetings (moves_then c.args.self.now.meetings c.see_to_ready.new.self.meetings c.see_to_due.new.self.meetings c.see_to_ready.ensures.moves c.see_to_due.ensures.moves) (moves_same c.see_to_due.new.self.meetings c.ends_all.new.self.meetings (c.ends_all.ensures.meetings ∙ (((c.see_to_waiting.ensures.none c.if-see_to_waiting.false).0) ∙ ((c.see_to_parting.ensures.none c.if-see_to_parting.false).0))))

pub returns-clause-moves : goal.returns-clause-moves
returns-clause-moves c =
    moves_then c.args.self.now.meetings c.see_to_due.new.self.meetings c.see_to_leaving.new.self.meetings (moves_then c.args.self.now.meetings c.see_to_ready.new.self.meetings c.see_to_due.new.self.meetings c.see_to_ready.ensures.moves c.see_to_due.ensures.moves) (moves_same c.see_to_due.new.self.meetings c.see_to_leaving.new.self.meetings (c.see_to_leaving.ensures.meetings ∙ (c.ends_all.ensures.meetings ∙ (((c.see_to_waiting.ensures.none c.if-see_to_waiting.false).0) ∙ ((c.see_to_parting.ensures.none c.if-see_to_parting.false).0)))))

pub returns-then-see_to_ready-clause-spares : goal.returns-then-see_to_ready-clause-spares
returns-then-see_to_ready-clause-spares c = c.see_to_ready.ensures.spares c.args.self.now.connections.conferences

pub returns-then-see_to_due-clause-spares : goal.returns-then-see_to_due-clause-spares
returns-then-see_to_due-clause-spares c = free_then c.args.self.now.connections.conferences c.args.self.now.meetings c.see_to_ready.new.self.meetings c.see_to_due.new.self.meetings (c.see_to_ready.ensures.spares c.args.self.now.connections.conferences) (subst (λ (cs : Conferences). MovesFree cs c.see_to_ready.new.self.meetings c.see_to_due.new.self.meetings) (c.see_to_ready.ensures.rests c.if-see_to_ready.false) c.see_to_due.ensures.spares)

pub returns-then-see_to_parting-clause-spares : goal.returns-then-see_to_parting-clause-spares
returns-then-see_to_parting-clause-spares c =
    free_then c.args.self.now.connections.conferences c.args.self.now.meetings c.see_to_due.new.self.meetings c.see_to_parting.new.self.meetings
    (free_then c.args.self.now.connections.conferences c.args.self.now.meetings c.see_to_ready.new.self.meetings c.see_to_due.new.self.meetings (c.see_to_ready.ensures.spares c.args.self.now.connections.conferences) (subst (λ (cs : Conferences). MovesFree cs c.see_to_ready.new.self.meetings c.see_to_due.new.self.meetings) (c.see_to_ready.ensures.rests c.if-see_to_ready.false) c.see_to_due.ensures.spares))
    (subst (λ (cs : Conferences). MovesFree cs c.see_to_due.new.self.meetings c.see_to_parting.new.self.meetings) ((c.see_to_due.ensures.rests c.if-see_to_due.false ∙ c.see_to_ready.ensures.rests c.if-see_to_ready.false)) c.see_to_parting.ensures.spares)

pub returns-then-see_to_waiting-clause-spares : goal.returns-then-see_to_waiting-clause-spares
returns-then-see_to_waiting-clause-spares c =
    free_then c.args.self.now.connections.conferences c.args.self.now.meetings c.see_to_parting.new.self.meetings c.see_to_waiting.new.self.meetings
    (free_then c.args.self.now.connections.conferences c.args.self.now.meetings c.see_to_due.new.self.meetings c.see_to_parting.new.self.meetings
    (free_then c.args.self.now.connections.conferences c.args.self.now.meetings c.see_to_ready.new.self.meetings c.see_to_due.new.self.meetings (c.see_to_ready.ensures.spares c.args.self.now.connections.conferences) (subst (λ (cs : Conferences). MovesFree cs c.see_to_ready.new.self.meetings c.see_to_due.new.self.meetings) (c.see_to_ready.ensures.rests c.if-see_to_ready.false) c.see_to_due.ensures.spares)) (free_same c.args.self.now.connections.conferences c.see_to_due.new.self.meetings c.see_to_parting.new.self.meetings ((c.see_to_parting.ensures.none c.if-see_to_parting.false).0)))
    (subst (λ (cs : Conferences). MovesFree cs c.see_to_parting.new.self.meetings c.see_to_waiting.new.self.meetings) (((c.see_to_parting.ensures.none c.if-see_to_parting.false).1 ∙ (c.see_to_due.ensures.rests c.if-see_to_due.false ∙ c.see_to_ready.ensures.rests c.if-see_to_ready.false))) c.see_to_waiting.ensures.spares)

pub returns-then-ends_all-clause-spares : goal.returns-then-ends_all-clause-spares
returns-then-ends_all-clause-spares c =
    free_then c.args.self.now.connections.conferences c.args.self.now.meetings c.see_to_due.new.self.meetings c.ends_all.new.self.meetings
    (free_then c.args.self.now.connections.conferences c.args.self.now.meetings c.see_to_ready.new.self.meetings c.see_to_due.new.self.meetings (c.see_to_ready.ensures.spares c.args.self.now.connections.conferences) (subst (λ (cs : Conferences). MovesFree cs c.see_to_ready.new.self.meetings c.see_to_due.new.self.meetings) (c.see_to_ready.ensures.rests c.if-see_to_ready.false) c.see_to_due.ensures.spares)) (free_same c.args.self.now.connections.conferences c.see_to_due.new.self.meetings c.ends_all.new.self.meetings (c.ends_all.ensures.meetings ∙ (((c.see_to_waiting.ensures.none c.if-see_to_waiting.false).0) ∙ ((c.see_to_parting.ensures.none c.if-see_to_parting.false).0))))

pub returns-clause-spares : goal.returns-clause-spares
returns-clause-spares c =
    free_then c.args.self.now.connections.conferences c.args.self.now.meetings c.see_to_due.new.self.meetings c.see_to_leaving.new.self.meetings
    (free_then c.args.self.now.connections.conferences c.args.self.now.meetings c.see_to_ready.new.self.meetings c.see_to_due.new.self.meetings (c.see_to_ready.ensures.spares c.args.self.now.connections.conferences) (subst (λ (cs : Conferences). MovesFree cs c.see_to_ready.new.self.meetings c.see_to_due.new.self.meetings) (c.see_to_ready.ensures.rests c.if-see_to_ready.false) c.see_to_due.ensures.spares)) (free_same c.args.self.now.connections.conferences c.see_to_due.new.self.meetings c.see_to_leaving.new.self.meetings (c.see_to_leaving.ensures.meetings ∙ (c.ends_all.ensures.meetings ∙ (((c.see_to_waiting.ensures.none c.if-see_to_waiting.false).0) ∙ ((c.see_to_parting.ensures.none c.if-see_to_parting.false).0)))))

pub returns-clause-rests : goal.returns-clause-rests
returns-clause-rests c = λ e. c.see_to_leaving.ensures.rests e ∙ (c.ends_all.ensures.rests c.if-ends_all.false ∙ ((c.see_to_waiting.ensures.none c.if-see_to_waiting.false).1 ∙ ((c.see_to_parting.ensures.none c.if-see_to_parting.false).1 ∙ (c.see_to_due.ensures.rests c.if-see_to_due.false ∙ c.see_to_ready.ensures.rests c.if-see_to_ready.false))))

pub returns-clause-ready : goal.returns-clause-ready
returns-clause-ready c = λ e. c.see_to_ready.ensures.none c.if-see_to_ready.false

pub returns-then-see_to_due-clause-steps : goal.returns-then-see_to_due-clause-steps
returns-then-see_to_due-clause-steps c = steps_then c.args.self.now.connections.sockets c.see_to_ready.new.self.connections.sockets c.see_to_due.new.self.connections.sockets c.see_to_ready.ensures.steps c.see_to_due.ensures.steps

pub returns-then-see_to_parting-clause-steps : goal.returns-then-see_to_parting-clause-steps
returns-then-see_to_parting-clause-steps c = steps_then c.args.self.now.connections.sockets c.see_to_due.new.self.connections.sockets c.see_to_parting.new.self.connections.sockets (steps_then c.args.self.now.connections.sockets c.see_to_ready.new.self.connections.sockets c.see_to_due.new.self.connections.sockets c.see_to_ready.ensures.steps c.see_to_due.ensures.steps) c.see_to_parting.ensures.steps

pub returns-then-see_to_waiting-clause-steps : goal.returns-then-see_to_waiting-clause-steps
returns-then-see_to_waiting-clause-steps c = steps_then c.args.self.now.connections.sockets c.see_to_parting.new.self.connections.sockets c.see_to_waiting.new.self.connections.sockets (steps_then c.args.self.now.connections.sockets c.see_to_due.new.self.connections.sockets c.see_to_parting.new.self.connections.sockets (steps_then c.args.self.now.connections.sockets c.see_to_ready.new.self.connections.sockets c.see_to_due.new.self.connections.sockets c.see_to_ready.ensures.steps c.see_to_due.ensures.steps) c.see_to_parting.ensures.steps) c.see_to_waiting.ensures.steps

pub returns-then-ends_all-clause-steps : goal.returns-then-ends_all-clause-steps
returns-then-ends_all-clause-steps c = steps_then c.args.self.now.connections.sockets c.see_to_waiting.new.self.connections.sockets c.ends_all.new.self.connections.sockets (steps_then c.args.self.now.connections.sockets c.see_to_parting.new.self.connections.sockets c.see_to_waiting.new.self.connections.sockets (steps_then c.args.self.now.connections.sockets c.see_to_due.new.self.connections.sockets c.see_to_parting.new.self.connections.sockets (steps_then c.args.self.now.connections.sockets c.see_to_ready.new.self.connections.sockets c.see_to_due.new.self.connections.sockets c.see_to_ready.ensures.steps c.see_to_due.ensures.steps) c.see_to_parting.ensures.steps) c.see_to_waiting.ensures.steps) c.ends_all.ensures.steps

pub returns-clause-steps : goal.returns-clause-steps
returns-clause-steps c = steps_then c.args.self.now.connections.sockets c.ends_all.new.self.connections.sockets c.see_to_leaving.new.self.connections.sockets (steps_then c.args.self.now.connections.sockets c.see_to_waiting.new.self.connections.sockets c.ends_all.new.self.connections.sockets (steps_then c.args.self.now.connections.sockets c.see_to_parting.new.self.connections.sockets c.see_to_waiting.new.self.connections.sockets (steps_then c.args.self.now.connections.sockets c.see_to_due.new.self.connections.sockets c.see_to_parting.new.self.connections.sockets (steps_then c.args.self.now.connections.sockets c.see_to_ready.new.self.connections.sockets c.see_to_due.new.self.connections.sockets c.see_to_ready.ensures.steps c.see_to_due.ensures.steps) c.see_to_parting.ensures.steps) c.see_to_waiting.ensures.steps) c.ends_all.ensures.steps) c.see_to_leaving.ensures.steps
