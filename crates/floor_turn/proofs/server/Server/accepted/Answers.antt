use Rattle.std.proofs.Common.{◌≡◌, Some, refl, subst, ◌∙◌, ap, false}
use Rattle.floor_connections.specs.declared.place.Place.TheVariants.{Door, Port}
use Rattle.floor_connections.specs.declared.table.Table.{Table}
use Rattle.floor_connections.specs.Table.{client_of, listener_of, socket_at}
use Rattle.floor_connections.specs.declared.conferences.Conferences.{Conferences}
use Rattle.floor_connections.proofs.Steps.{steps_same, steps_then}
use Rattle.floor_turn.proofs.Handing.{place_of}
use Rattle.floor_turn.proofs.Entering.{Declined, IsClients, of_listener}
use Rattle.floor_turn.proofs.Moving.{moves_same}
use Rattle.floor_turn.proofs.Sparing.{free_same}
use Rattle.floor_turn.specs.Held.{MovesFree, is_held_place}
use Rattle.floor_connections.specs.declared.place.Place.{Place}
use Rattle.floor_turn.proofs.server.Server.accepted.Goals as goal

pub returns-in-Ok-clause-joined : goal.returns-in-Ok-clause-joined
returns-in-Ok-clause-joined c = λ l d u p at is. c.in-Ok.ensures.joined d u p
    (place_of (listener_of (socket_at c.args.self.now.connections.table c.args.listener)) c.in-Some.known l (Port d u p)
    (subst (λ (t : Table). listener_of (socket_at t c.args.listener) ≡ Some c.in-Some.known) c.pass.ensures.table c.in-Some.ensures.found) at is)

pub returns-in_default-clause-moves : goal.returns-in_default-clause-moves
returns-in_default-clause-moves c = moves_same c.args.self.now.meetings c.args.self.now.meetings refl

pub returns-in-Ok-clause-at_door : goal.returns-in-Ok-clause-at_door
returns-in-Ok-clause-at_door c = λ l named_by p at is. c.in-Ok.ensures.at_door named_by p
    (place_of (listener_of (socket_at c.args.self.now.connections.table c.args.listener)) c.in-Some.known l (Door named_by p)
    (subst (λ (t : Table). listener_of (socket_at t c.args.listener) ≡ Some c.in-Some.known) c.pass.ensures.table c.in-Some.ensures.found) at is)

pub returns-in_default-clause-steps : goal.returns-in_default-clause-steps
returns-in_default-clause-steps c = steps_then c.args.self.now.connections.sockets c.pass.new.self.sockets c.accept.new.self.sockets c.pass.ensures.steps c.accept.ensures.steps

pub returns-in-Ok-clause-steps : goal.returns-in-Ok-clause-steps
returns-in-Ok-clause-steps c = steps_then c.args.self.now.connections.sockets c.accept.new.self.sockets c.come_in.new.self.connections.sockets (steps_then c.args.self.now.connections.sockets c.pass.new.self.sockets c.accept.new.self.sockets c.pass.ensures.steps c.accept.ensures.steps) c.come_in.ensures.steps

pub returns-in-Err-clause-steps : goal.returns-in-Err-clause-steps
returns-in-Err-clause-steps c = steps_then c.args.self.now.connections.sockets c.come_in.new.self.connections.sockets c.tell.new.self.sockets
    (steps_then c.args.self.now.connections.sockets c.accept.new.self.sockets c.come_in.new.self.connections.sockets (steps_then c.args.self.now.connections.sockets c.pass.new.self.sockets c.accept.new.self.sockets c.pass.ensures.steps c.accept.ensures.steps) c.come_in.ensures.steps)
    (steps_same c.come_in.new.self.connections.sockets c.tell.new.self.sockets c.tell.ensures.sockets)

pub returns-in-Err-clause-refused : goal.returns-in-Err-clause-refused
returns-in-Err-clause-refused c = λ l d u p asked at is.
    subst (λ (cs : Conferences). Declined cs c.args.self.now.meetings c.come_in.new.self.meetings c.in-Err.refusal d u) (c.accept.ensures.conferences ∙ c.pass.ensures.conferences)
    (c.in-Err.ensures.refused d u p
    (place_of (listener_of (socket_at c.args.self.now.connections.table c.args.listener)) c.in-Some.known l (Port d u p)
    (subst (λ (t : Table). listener_of (socket_at t c.args.listener) ≡ Some c.in-Some.known) c.pass.ensures.table c.in-Some.ensures.found) at is))

pub returns-in-Ok-clause-client : goal.returns-in-Ok-clause-client
returns-in-Ok-clause-client c = λ l at.
    of_listener (λ place. IsClients place → client_of (socket_at c.come_in.new.self.connections.table c.in-Ok.socket) ≡ Some place)
    (listener_of (socket_at c.args.self.now.connections.table c.args.listener)) c.in-Some.known l
    (subst (λ (t : Table). listener_of (socket_at t c.args.listener) ≡ Some c.in-Some.known) c.pass.ensures.table c.in-Some.ensures.found) at c.in-Ok.ensures.client

pub returns-in_default-clause-spares : goal.returns-in_default-clause-spares
returns-in_default-clause-spares c = λ l at free. free_same c.args.self.now.connections.conferences c.args.self.now.meetings c.args.self.now.meetings refl

pub returns-in-Ok-clause-spares : goal.returns-in-Ok-clause-spares
returns-in-Ok-clause-spares c = λ l at free.
    let same = c.accept.ensures.conferences ∙ c.pass.ensures.conferences in
    let known : is_held_place c.accept.new.self.conferences c.in-Some.known.place ≡ false =
    ap (λ (cs : Conferences). is_held_place cs c.in-Some.known.place) same
    ∙ (ap (λ (place : Place). is_held_place c.args.self.now.connections.conferences place) (place_of (listener_of (socket_at c.args.self.now.connections.table c.args.listener)) c.in-Some.known l l.place (subst (λ (t : Table). listener_of (socket_at t c.args.listener) ≡ Some c.in-Some.known) c.pass.ensures.table c.in-Some.ensures.found) at refl) ∙ free) in
    subst (λ (cs : Conferences). MovesFree cs c.args.self.now.meetings c.come_in.new.self.meetings) same (c.come_in.ensures.spares known)

pub returns-in-Err-clause-spares : goal.returns-in-Err-clause-spares
returns-in-Err-clause-spares c = λ l at free.
    let same = c.accept.ensures.conferences ∙ c.pass.ensures.conferences in
    let known : is_held_place c.accept.new.self.conferences c.in-Some.known.place ≡ false =
    ap (λ (cs : Conferences). is_held_place cs c.in-Some.known.place) same
    ∙ (ap (λ (place : Place). is_held_place c.args.self.now.connections.conferences place) (place_of (listener_of (socket_at c.args.self.now.connections.table c.args.listener)) c.in-Some.known l l.place (subst (λ (t : Table). listener_of (socket_at t c.args.listener) ≡ Some c.in-Some.known) c.pass.ensures.table c.in-Some.ensures.found) at refl) ∙ free) in
    subst (λ (cs : Conferences). MovesFree cs c.args.self.now.meetings c.come_in.new.self.meetings) same (c.come_in.ensures.spares known)
