use Rattle.std.proofs.Common.{refl, ◌≡◌, ◌∙◌, ap, sym, Bool, subst}
use Rattle.floor_meetings.specs.Runs.{Ended}
use Rattle.floor_connections.proofs.Steps.{steps_then}
use Rattle.std.specs.Prelude.{if◌then◌else◌}
use Rattle.floor_doors.specs.declared.newcomer.Verdict.TheVariants.{LetGo, Refuse}
use Rattle.floor_doors.specs.declared.refusal.DoorRefusal.TheVariants.{NoHeader}
use Rattle.floor_sockets.specs.Sockets.{Sockets, life_at}
use Rattle.floor_connections.specs.Asked.{reads}
use Rattle.floor_connections.specs.Table.{is_at_door, peer_of, socket_at}
use Rattle.floor_connections.specs.declared.table.Table.{Table}
use Rattle.floor_turn.proofs.Handing.{never}
use Rattle.floor_turn.proofs.Entering.{door_peer}
use Rattle.floor_turn.proofs.Moving.{moves_one, moves_same}
use Rattle.floor_turn.proofs.Sparing.{free_one, free_same}
use Rattle.floor_turn.specs.Held.{MovesFree}
use Rattle.floor_connections.specs.declared.conferences.Conferences.{Conferences}
use Rattle.floor_turn.proofs.server.Server.ended.Goals as goal

pub returns-then-not-is_reading-clause-moves : goal.returns-then-not-is_reading-clause-moves
returns-then-not-is_reading-clause-moves c = moves_same c.args.self.now.meetings c.args.self.now.meetings refl

pub returns-clause-moves : goal.returns-clause-moves
returns-clause-moves c = moves_one (Ended c.args.socket) c.args.self.now.meetings c.ended.new.self (c.ended.ensures.members, c.ended.ensures.took) (λ slot. refl)

pub returns-then-is_at_door-clause-steps : goal.returns-then-is_at_door-clause-steps
returns-then-is_at_door-clause-steps c = steps_then c.args.self.now.connections.sockets c.pass.new.self.sockets c.act_on.new.self.connections.sockets c.pass.ensures.steps c.act_on.ensures.steps

pub returns-clause-steps : goal.returns-clause-steps
returns-clause-steps c = steps_then c.args.self.now.connections.sockets c.pass.new.self.sockets c.end_reading.new.self.sockets c.pass.ensures.steps c.end_reading.ensures.steps

pub returns-then-is_at_door-clause-turned : goal.returns-then-is_at_door-clause-turned
returns-then-is_at_door-clause-turned c = λ asked at.
    let same : socket_at c.pass.new.self.table c.args.socket ≡ socket_at c.args.self.now.connections.table c.args.socket = ap (λ (t : Table). socket_at t c.args.socket) c.pass.ensures.table in
    let guest = door_peer (socket_at c.args.self.now.connections.table c.args.socket) at in
    c.act_on.ensures.refused guest.0 NoHeader (ap peer_of same ∙ guest.1)
    (c.ended_at_door-verdict.ensures.value ∙ ap (λ (b : Bool). if b then Refuse NoHeader else LetGo) (ap is_at_door same ∙ at))

pub returns-clause-turned : goal.returns-clause-turned
returns-clause-turned c = λ asked at. never _ (sym c.if-is_at_door.false ∙ (c.is_at_door.ensures.value ∙ (ap (λ (t : Table). is_at_door (socket_at t c.args.socket)) c.pass.ensures.table ∙ at)))

pub returns-then-not-is_reading-clause-turned : goal.returns-then-not-is_reading-clause-turned
returns-then-not-is_reading-clause-turned c = λ asked at. never _ (sym c.if-not-is_reading.true ∙ (c.is_reading.ensures.value ∙ ap (λ (s : Sockets). reads (life_at s c.args.socket)) c.pass.ensures.sockets ∙ asked))

pub returns-then-not-is_reading-clause-spares : goal.returns-then-not-is_reading-clause-spares
returns-then-not-is_reading-clause-spares c = λ free. free_same c.args.self.now.connections.conferences c.args.self.now.meetings c.args.self.now.meetings refl

pub returns-then-is_at_door-clause-spares : goal.returns-then-is_at_door-clause-spares
returns-then-is_at_door-clause-spares c = λ free. subst (λ (cs : Conferences). MovesFree cs c.args.self.now.meetings c.act_on.new.self.meetings) c.pass.ensures.conferences c.act_on.ensures.spares

pub returns-clause-spares : goal.returns-clause-spares
returns-clause-spares c = λ free. free_one c.args.self.now.connections.conferences (Ended c.args.socket) c.args.self.now.meetings c.ended.new.self (c.ended.ensures.members, c.ended.ensures.took) (λ slot. refl) free
