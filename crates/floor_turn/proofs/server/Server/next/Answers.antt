use Rattle.std.proofs.Common.{◌≡◌, ℕ, None, refl, ap, subst, sym, ◌∙◌}
use Rattle.floor_loop.specs.Loop.{ready_at}
use Rattle.floor_sockets.specs.Sockets.{IsDone}
use Rattle.floor_connections.specs.declared.connections.Connections.{Connections}
use Rattle.std.specs.Prelude.{Some}
use Rattle.std.proofs.lemmas.Option.{none-some}
use Rattle.floor_sockets.specs.declared.life.Deed.TheVariants.{Shut}
use Rattle.floor_connections.proofs.Steps.{steps_given, steps_same, steps_then}
use Rattle.floor_turn.proofs.Handing.{if_none, rests_done}
use Rattle.floor_turn.proofs.Moving.{moves_same, moves_then}
use Rattle.floor_turn.proofs.Sparing.{free_same, free_then, none_read}
use Rattle.floor_turn.specs.Held.{IsOffered, MovesFree}
use Rattle.floor_connections.specs.declared.conferences.Conferences.{Conferences}
use Rattle.floor_turn.proofs.server.Server.next.Goals as goal

pub returns-in-Some-clause-moves : goal.returns-in-Some-clause-moves
returns-in-Some-clause-moves c = moves_same c.args.self.now.meetings c.args.self.now.meetings refl

pub returns-in-Some-next_wanted-clause-moves : goal.returns-in-Some-next_wanted-clause-moves
returns-in-Some-next_wanted-clause-moves c = moves_same c.args.self.now.meetings c.args.self.now.meetings refl

pub returns-in-Some-next-clause-moves : goal.returns-in-Some-next-clause-moves
returns-in-Some-next-clause-moves c = moves_then c.args.self.now.meetings c.see_to_somebody.new.self.meetings c.do_asked.new.self.meetings c.see_to_somebody.ensures.moves c.do_asked.ensures.moves

pub returns-clause-moves : goal.returns-clause-moves
returns-clause-moves c =
    moves_then c.args.self.now.meetings c.see_to_somebody.new.self.meetings c.rest.new.self.meetings c.see_to_somebody.ensures.moves
    (moves_same c.see_to_somebody.new.self.meetings c.rest.new.self.meetings c.rest.ensures.meetings)

pub returns-clause-rest : goal.returns-clause-rest
returns-clause-rest c =
    if_none c.rest.result (IsDone c.rest.new.self.connections.sockets)
    (subst (λ (x : Connections). IsDone x.sockets) (sym c.rest.ensures.connections)
    (rests_done c.see_to_somebody.new.self.connections.sockets c.next.new.self c.in-None-next.ensures.done c.in-None-next.ensures.left))

pub returns-clause-ready : goal.returns-clause-ready
returns-clause-ready c =
    if_none c.rest.result ((number : ℕ) → ready_at c.args.self.now.meetings.hub number ≡ None) (c.see_to_somebody.ensures.ready c.if-see_to_somebody.false)

pub returns-in-Some-clause-handed : goal.returns-in-Some-clause-handed
returns-in-Some-clause-handed c = (None, (λ slot e. absurd (none-some (Shut slot) e)), steps_same c.args.self.now.connections.sockets c.next_entry.new.self.sockets c.next_entry.ensures.sockets)

pub returns-in-Some-next_wanted-clause-handed : goal.returns-in-Some-next_wanted-clause-handed
returns-in-Some-next_wanted-clause-handed c = (None, (λ slot e. absurd (none-some (Shut slot) e)), steps_then c.args.self.now.connections.sockets c.next_entry.new.self.sockets c.next_wanted.new.self.sockets (steps_same c.args.self.now.connections.sockets c.next_entry.new.self.sockets c.next_entry.ensures.sockets) c.next_wanted.ensures.steps)

pub returns-then-see_to_somebody-clause-handed : goal.returns-then-see_to_somebody-clause-handed
returns-then-see_to_somebody-clause-handed c = (None, (λ slot e. absurd (none-some (Shut slot) e)), steps_then c.args.self.now.connections.sockets c.next_wanted.new.self.sockets c.see_to_somebody.new.self.connections.sockets (steps_then c.args.self.now.connections.sockets c.next_entry.new.self.sockets c.next_wanted.new.self.sockets (steps_same c.args.self.now.connections.sockets c.next_entry.new.self.sockets c.next_entry.ensures.sockets) c.next_wanted.ensures.steps) c.see_to_somebody.ensures.steps)

pub returns-in-Some-next-clause-handed : goal.returns-in-Some-next-clause-handed
returns-in-Some-next-clause-handed c = (Some c.in-Some-next.asked, c.do_asked.ensures.handed, steps_given (Some c.in-Some-next.asked) c.args.self.now.connections.sockets c.see_to_somebody.new.self.connections.sockets c.next.new.self c.do_asked.new.self.connections.sockets (steps_then c.args.self.now.connections.sockets c.next_wanted.new.self.sockets c.see_to_somebody.new.self.connections.sockets (steps_then c.args.self.now.connections.sockets c.next_entry.new.self.sockets c.next_wanted.new.self.sockets (steps_same c.args.self.now.connections.sockets c.next_entry.new.self.sockets c.next_entry.ensures.sockets) c.next_wanted.ensures.steps) c.see_to_somebody.ensures.steps) c.in-Some-next.ensures.asked c.do_asked.ensures.steps)

pub returns-clause-handed : goal.returns-clause-handed
returns-clause-handed c = (None, (λ slot e. absurd (none-some (Shut slot) e)), steps_given None c.args.self.now.connections.sockets c.see_to_somebody.new.self.connections.sockets c.next.new.self c.rest.new.self.connections.sockets (steps_then c.args.self.now.connections.sockets c.next_wanted.new.self.sockets c.see_to_somebody.new.self.connections.sockets (steps_then c.args.self.now.connections.sockets c.next_entry.new.self.sockets c.next_wanted.new.self.sockets (steps_same c.args.self.now.connections.sockets c.next_entry.new.self.sockets c.next_entry.ensures.sockets) c.next_wanted.ensures.steps) c.see_to_somebody.ensures.steps) (c.in-None-next.ensures.done, c.in-None-next.ensures.left) (steps_same c.next.new.self c.rest.new.self.connections.sockets (ap (λ (x : Connections). x.sockets) c.rest.ensures.connections)))

pub returns-in-Some-clause-spares : goal.returns-in-Some-clause-spares
returns-in-Some-clause-spares c = free_same c.args.self.now.connections.conferences c.args.self.now.meetings c.args.self.now.meetings refl

pub returns-in-Some-next_wanted-clause-spares : goal.returns-in-Some-next_wanted-clause-spares
returns-in-Some-next_wanted-clause-spares c = free_same c.args.self.now.connections.conferences c.args.self.now.meetings c.args.self.now.meetings refl

pub returns-then-see_to_somebody-clause-spares : goal.returns-then-see_to_somebody-clause-spares
returns-then-see_to_somebody-clause-spares c =
    subst (λ (cs : Conferences). MovesFree cs c.args.self.now.meetings c.see_to_somebody.new.self.meetings) (c.next_wanted.ensures.conferences ∙ ap (λ (x : Connections). x.conferences) c.next_entry.ensures.plain) c.see_to_somebody.ensures.spares

pub returns-in-Some-next-clause-spares : goal.returns-in-Some-next-clause-spares
returns-in-Some-next-clause-spares c =
    let same = c.next_wanted.ensures.conferences ∙ ap (λ (x : Connections). x.conferences) c.next_entry.ensures.plain in
    let rests = c.see_to_somebody.ensures.rests c.if-see_to_somebody.false ∙ same in
    free_then c.args.self.now.connections.conferences c.args.self.now.meetings c.see_to_somebody.new.self.meetings c.do_asked.new.self.meetings
    (subst (λ (cs : Conferences). MovesFree cs c.args.self.now.meetings c.see_to_somebody.new.self.meetings) same c.see_to_somebody.ensures.spares)
    (subst (λ (cs : Conferences). MovesFree cs c.see_to_somebody.new.self.meetings c.do_asked.new.self.meetings) rests c.do_asked.ensures.spares)

pub returns-clause-spares : goal.returns-clause-spares
returns-clause-spares c =
    let same = c.next_wanted.ensures.conferences ∙ ap (λ (x : Connections). x.conferences) c.next_entry.ensures.plain in
    free_then c.args.self.now.connections.conferences c.args.self.now.meetings c.see_to_somebody.new.self.meetings c.rest.new.self.meetings
    (subst (λ (cs : Conferences). MovesFree cs c.args.self.now.meetings c.see_to_somebody.new.self.meetings) same c.see_to_somebody.ensures.spares)
    (free_same c.args.self.now.connections.conferences c.see_to_somebody.new.self.meetings c.rest.new.self.meetings c.rest.ensures.meetings)

pub returns-in-Some-next_wanted-clause-offered : goal.returns-in-Some-next_wanted-clause-offered
returns-in-Some-next_wanted-clause-offered c = none_read c.args.self.now.connections.conferences c.next_wanted.new.self.table c.args.self.now.meetings (Some c.in-Some-next_wanted.deed) c.in-Some-next_wanted.ensures.listens

pub returns-in-Some-next-clause-offered : goal.returns-in-Some-next-clause-offered
returns-in-Some-next-clause-offered c =
    let same = c.next_wanted.ensures.conferences ∙ ap (λ (x : Connections). x.conferences) c.next_entry.ensures.plain in
    subst (λ (cs : Conferences). IsOffered cs c.do_asked.new.self.connections.table c.do_asked.new.self.meetings c.do_asked.result) (c.see_to_somebody.ensures.rests c.if-see_to_somebody.false ∙ same) c.do_asked.ensures.offered

pub returns-clause-offered : goal.returns-clause-offered
returns-clause-offered c = none_read c.args.self.now.connections.conferences c.rest.new.self.connections.table c.rest.new.self.meetings c.rest.result c.rest.ensures.ends
