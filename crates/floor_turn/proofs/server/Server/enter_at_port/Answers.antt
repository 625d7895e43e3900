use Rattle.std.proofs.Common.{refl, inl, inr, subst, ap, ◌∙◌}
use Rattle.floor_connections.specs.declared.conferences.Conferences.{Conferences}
use Rattle.floor_connections.proofs.Steps.{steps_then}
use Rattle.floor_turn.proofs.Entering.{Declined}
use Rattle.floor_turn.proofs.Moving.{moves_same}
use Rattle.floor_turn.proofs.Sparing.{free_same}
use Rattle.floor_turn.specs.Held.{MovesFree}
use Rattle.floor_connections.specs.Conferences.{is_held}
use Rattle.floor_turn.proofs.server.Server.enter_at_port.Goals as goal

pub returns-in-Err-clause-moves : goal.returns-in-Err-clause-moves
returns-in-Err-clause-moves c = moves_same c.args.self.now.meetings c.args.self.now.meetings refl

pub returns-in-Ok-join-clause-steps : goal.returns-in-Ok-join-clause-steps
returns-in-Ok-join-clause-steps c = steps_then c.args.self.now.connections.sockets c.open_member.new.self.sockets c.join.new.self.connections.sockets c.open_member.ensures.steps c.join.ensures.steps

pub returns-in-Err-join-clause-steps : goal.returns-in-Err-join-clause-steps
returns-in-Err-join-clause-steps c = steps_then c.args.self.now.connections.sockets c.join.new.self.connections.sockets c.take_back.new.self.sockets
    (steps_then c.args.self.now.connections.sockets c.open_member.new.self.sockets c.join.new.self.connections.sockets c.open_member.ensures.steps c.join.ensures.steps) c.take_back.ensures.steps

pub returns-in-Err-clause-refused : goal.returns-in-Err-clause-refused
returns-in-Err-clause-refused c = inl (c.in-Err.ensures.refused, refl)

pub returns-in-Err-join-clause-refused : goal.returns-in-Err-join-clause-refused
returns-in-Err-join-clause-refused c =
    subst (λ (cs : Conferences). Declined cs c.args.self.now.meetings c.join.new.self.meetings c.in-Err-join.refusal c.args.conference c.args.user) c.open_member.ensures.conferences (inr (c.in-Ok.socket, c.in-Err-join.ensures.refused))

pub returns-in-Err-clause-spares : goal.returns-in-Err-clause-spares
returns-in-Err-clause-spares c = λ free. free_same c.args.self.now.connections.conferences c.args.self.now.meetings c.args.self.now.meetings refl

pub returns-in-Ok-join-clause-spares : goal.returns-in-Ok-join-clause-spares
returns-in-Ok-join-clause-spares c = λ free.
    let same = c.open_member.ensures.conferences in
    subst (λ (cs : Conferences). MovesFree cs c.args.self.now.meetings c.join.new.self.meetings) same (c.join.ensures.spares (ap (λ (cs : Conferences). is_held cs c.args.conference) same ∙ free))

pub returns-in-Err-join-clause-spares : goal.returns-in-Err-join-clause-spares
returns-in-Err-join-clause-spares c = λ free.
    let same = c.open_member.ensures.conferences in
    subst (λ (cs : Conferences). MovesFree cs c.args.self.now.meetings c.join.new.self.meetings) same (c.join.ensures.spares (ap (λ (cs : Conferences). is_held cs c.args.conference) same ∙ free))
