use Rattle.std.proofs.Common.{◌≡◌, false, refl, sym, ap, ◌∙◌, subst}
use Rattle.floor_meetings.specs.Meetings.{member_at}
use Rattle.floor_connections.specs.declared.conferences.Conferences.{Conferences}
use Rattle.floor_connections.proofs.Steps.{steps_same, steps_then}
use Rattle.floor_turn.specs.Held.{MovesFree, is_held_for}
use Rattle.floor_turn.proofs.Moving.{moves_same}
use Rattle.floor_turn.proofs.Sparing.{free_same}
use Rattle.floor_turn.proofs.server.Server.see_to_parting.Goals as goal

pub returns-in_default-clause-moves : goal.returns-in_default-clause-moves
returns-in_default-clause-moves c = moves_same c.args.self.now.meetings c.args.self.now.meetings refl

pub returns-in_default-clause-spares : goal.returns-in_default-clause-spares
returns-in_default-clause-spares c = free_same c.args.self.now.connections.conferences c.args.self.now.meetings c.args.self.now.meetings refl

pub returns-in_default-clause-steps : goal.returns-in_default-clause-steps
returns-in_default-clause-steps c = steps_same c.args.self.now.connections.sockets c.next_parting.new.self.sockets c.next_parting.ensures.sockets

pub returns-in_default-first_gone-clause-moves : goal.returns-in_default-first_gone-clause-moves
returns-in_default-first_gone-clause-moves c = moves_same c.args.self.now.meetings c.args.self.now.meetings refl

pub returns-in_default-first_gone-clause-spares : goal.returns-in_default-first_gone-clause-spares
returns-in_default-first_gone-clause-spares c = free_same c.args.self.now.connections.conferences c.args.self.now.meetings c.args.self.now.meetings refl

pub returns-in_default-first_gone-clause-steps : goal.returns-in_default-first_gone-clause-steps
returns-in_default-first_gone-clause-steps c = steps_same c.args.self.now.connections.sockets c.next_parting.new.self.sockets c.next_parting.ensures.sockets

pub returns-then-is_held_at-clause-moves : goal.returns-then-is_held_at-clause-moves
returns-then-is_held_at-clause-moves c = moves_same c.args.self.now.meetings c.args.self.now.meetings refl

pub returns-then-is_held_at-clause-spares : goal.returns-then-is_held_at-clause-spares
returns-then-is_held_at-clause-spares c = free_same c.args.self.now.connections.conferences c.args.self.now.meetings c.args.self.now.meetings refl

pub returns-then-is_held_at-clause-steps : goal.returns-then-is_held_at-clause-steps
returns-then-is_held_at-clause-steps c = steps_same c.args.self.now.connections.sockets c.next_parting.new.self.sockets c.next_parting.ensures.sockets

pub returns-clause-spares : goal.returns-clause-spares
returns-clause-spares c =
    let later = c.part_later-later.ensures.conferences in
    let free : is_held_for c.part_later-later.new.self.conferences (member_at c.args.self.now.meetings c.in-Some-first_gone.socket) ≡ false =
    ap (λ (cs : Conferences). is_held_for cs (member_at c.args.self.now.meetings c.in-Some-first_gone.socket)) later ∙ (sym c.is_held_at.ensures.value ∙ c.if-is_held_at.false) in
    subst (λ (cs : Conferences). MovesFree cs c.args.self.now.meetings c.see_off_gone.new.self.meetings) (later ∙ c.next_parting.ensures.conferences) (c.see_off_gone.ensures.spares free)

pub returns-clause-steps : goal.returns-clause-steps
returns-clause-steps c =
    steps_then c.args.self.now.connections.sockets c.part_later-later.new.self.sockets c.see_off_gone.new.self.connections.sockets
    (steps_same c.args.self.now.connections.sockets c.part_later-later.new.self.sockets (c.part_later-later.ensures.sockets ∙ c.next_parting.ensures.sockets)) c.see_off_gone.ensures.steps
