use Rattle.std.proofs.Common.{refl, sym, ap, ◌∙◌}
use Rattle.floor_meetings.specs.Runs.{Ended}
use Rattle.floor_connections.specs.declared.departure.Departure.TheVariants.{TooLong}
use Rattle.floor_connections.specs.Announced.{has_too_long}
use Rattle.floor_connections.specs.Table.{announced_of, socket_at}
use Rattle.floor_connections.specs.Received.{received}
use Rattle.floor_connections.specs.declared.conferences.Conferences.{Conferences}
use Rattle.floor_connections.proofs.Logging.{goes_same}
use Rattle.floor_connections.proofs.Steps.{steps_same}
use Rattle.floor_turn.proofs.Entering.{kept_members}
use Rattle.floor_turn.proofs.Heard.{not_both, not_found, not_neither}
use Rattle.floor_turn.proofs.Moving.{moves_one, moves_same}
use Rattle.floor_turn.proofs.Sparing.{free_one, free_same}
use Rattle.floor_turn.proofs.server.Server.end_too_long.Goals as goal

pub returns-clause-over : goal.returns-clause-over
returns-clause-over c = λ e. (c.ended.ensures.members, c.ended.ensures.took)

pub returns-clause-moves : goal.returns-clause-moves
returns-clause-moves c = moves_one (Ended c.args.socket) c.args.self.now.meetings c.ended.new.self (c.ended.ensures.members, c.ended.ensures.took) (λ slot. refl)

pub returns-clause-spares : goal.returns-clause-spares
returns-clause-spares c = λ cs free. free_one cs (Ended c.args.socket) c.args.self.now.meetings c.ended.new.self (c.ended.ensures.members, c.ended.ensures.took) (λ slot. refl) free

pub returns-clause-member : goal.returns-clause-member
returns-clause-member c = kept_members c.args.socket TooLong c.args.self.now.connections.table c.end_reading.new.self.table c.end_reading.ensures.here c.end_reading.ensures.others c.args.socket

pub returns-clause-log : goal.returns-clause-log
returns-clause-log c = goes_same c.args.self.now.connections c.end_reading.new.self (λ k. ap (λ (cs : Conferences). received cs k) c.end_reading.ensures.conferences) c.end_reading.ensures.log

pub returns-clause-same : goal.returns-clause-same
returns-clause-same c = λ e. absurd (not_neither c.args.is_over (has_too_long (announced_of (socket_at c.args.self.now.connections.table c.args.socket))) c.if-not-is_over.false (sym c.is_too_long.ensures.value ∙ c.if-not-is_too_long.false) e)

pub returns-then-not-is_over-clause-over : goal.returns-then-not-is_over-clause-over
returns-then-not-is_over-clause-over c = λ e. absurd (not_both c.args.is_over (has_too_long (announced_of (socket_at c.args.self.now.connections.table c.args.socket))) c.if-not-is_over.true e)

pub returns-then-not-is_too_long-clause-over : goal.returns-then-not-is_too_long-clause-over
returns-then-not-is_too_long-clause-over c = λ e. absurd (not_found c.args.is_over (has_too_long (announced_of (socket_at c.args.self.now.connections.table c.args.socket))) (sym c.is_too_long.ensures.value ∙ c.if-not-is_too_long.true) e)

pub returns-then-not-is_over-clause-moves : goal.returns-then-not-is_over-clause-moves
returns-then-not-is_over-clause-moves c = moves_same c.args.self.now.meetings c.args.self.now.meetings refl

pub returns-then-not-is_over-clause-spares : goal.returns-then-not-is_over-clause-spares
returns-then-not-is_over-clause-spares c = λ cs free. free_same cs c.args.self.now.meetings c.args.self.now.meetings refl

pub returns-then-not-is_over-clause-steps : goal.returns-then-not-is_over-clause-steps
returns-then-not-is_over-clause-steps c = steps_same c.args.self.now.connections.sockets c.args.self.now.connections.sockets refl

pub returns-then-not-is_over-clause-log : goal.returns-then-not-is_over-clause-log
returns-then-not-is_over-clause-log c = goes_same c.args.self.now.connections c.args.self.now.connections (λ k. refl) (record { entries = refl; untold = refl })

pub returns-then-not-is_too_long-clause-moves : goal.returns-then-not-is_too_long-clause-moves
returns-then-not-is_too_long-clause-moves c = moves_same c.args.self.now.meetings c.args.self.now.meetings refl

pub returns-then-not-is_too_long-clause-spares : goal.returns-then-not-is_too_long-clause-spares
returns-then-not-is_too_long-clause-spares c = λ cs free. free_same cs c.args.self.now.meetings c.args.self.now.meetings refl

pub returns-then-not-is_too_long-clause-steps : goal.returns-then-not-is_too_long-clause-steps
returns-then-not-is_too_long-clause-steps c = steps_same c.args.self.now.connections.sockets c.args.self.now.connections.sockets refl

pub returns-then-not-is_too_long-clause-log : goal.returns-then-not-is_too_long-clause-log
returns-then-not-is_too_long-clause-log c = goes_same c.args.self.now.connections c.args.self.now.connections (λ k. refl) (record { entries = refl; untold = refl })
