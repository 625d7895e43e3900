use Rattle.std.proofs.Common.{◌≡◌, false, refl, ap, ◌∙◌, subst}
use Rattle.floor_connections.specs.Conferences.{is_held}
use Rattle.floor_connections.specs.declared.conferences.Conferences.{Conferences}
use Rattle.floor_connections.specs.declared.table.Named.{Named}
use Rattle.floor_connections.proofs.Steps.{steps_same, steps_then}
use Rattle.floor_turn.specs.Held.{MovesFree}
use Rattle.floor_turn.proofs.Moving.{moves_same}
use Rattle.floor_turn.proofs.Sparing.{free_same, some_named}
use Rattle.floor_turn.proofs.server.Server.see_to_waiting.Goals as goal

pub returns-in_default-clause-moves : goal.returns-in_default-clause-moves
returns-in_default-clause-moves c = moves_same c.args.self.now.meetings c.args.self.now.meetings refl

pub returns-in_default-clause-spares : goal.returns-in_default-clause-spares
returns-in_default-clause-spares c = free_same c.args.self.now.connections.conferences c.args.self.now.meetings c.args.self.now.meetings refl

pub returns-in_default-clause-none : goal.returns-in_default-clause-none
returns-in_default-clause-none c = λ e. (refl, c.next_waiting.ensures.conferences)

pub returns-in_default-clause-steps : goal.returns-in_default-clause-steps
returns-in_default-clause-steps c = steps_same c.args.self.now.connections.sockets c.next_waiting.new.self.sockets c.next_waiting.ensures.sockets

pub returns-in_default-take_waiting-clause-moves : goal.returns-in_default-take_waiting-clause-moves
returns-in_default-take_waiting-clause-moves c = moves_same c.args.self.now.meetings c.args.self.now.meetings refl

pub returns-in_default-take_waiting-clause-spares : goal.returns-in_default-take_waiting-clause-spares
returns-in_default-take_waiting-clause-spares c = free_same c.args.self.now.connections.conferences c.args.self.now.meetings c.args.self.now.meetings refl

pub returns-in_default-take_waiting-clause-steps : goal.returns-in_default-take_waiting-clause-steps
returns-in_default-take_waiting-clause-steps c = steps_same c.args.self.now.connections.sockets c.next_waiting.new.self.sockets c.next_waiting.ensures.sockets

pub returns-clause-spares : goal.returns-clause-spares
returns-clause-spares c =
    let found = c.in-Some.ensures.found in
    let same = some_named c.in-Some-take_waiting.named found.0 (c.in-Some-take_waiting.ensures.value ∙ found.1) in
    let free : is_held c.next_waiting.new.self.conferences c.in-Some-take_waiting.named.conference ≡ false = ap (λ (n : Named). is_held c.next_waiting.new.self.conferences n.conference) same ∙ found.2 in
    subst (λ (cs : Conferences). MovesFree cs c.args.self.now.meetings c.enter_waiting.new.self.meetings) c.next_waiting.ensures.conferences (c.enter_waiting.ensures.spares free)

pub returns-clause-steps : goal.returns-clause-steps
returns-clause-steps c =
    steps_then c.args.self.now.connections.sockets c.next_waiting.new.self.sockets c.enter_waiting.new.self.connections.sockets
    (steps_same c.args.self.now.connections.sockets c.next_waiting.new.self.sockets c.next_waiting.ensures.sockets) c.enter_waiting.ensures.steps
