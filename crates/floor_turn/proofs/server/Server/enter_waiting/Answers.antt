use Rattle.std.proofs.Common.{refl, ap, ◌∙◌}
use Rattle.floor_sockets.specs.Runs.{Fail}
use Rattle.floor_meetings.specs.Meetings.{member_at}
use Rattle.floor_connections.specs.Conferences.{is_held}
use Rattle.floor_connections.proofs.Steps.{steps_more, steps_then}
use Rattle.floor_turn.proofs.Moving.{moves_then}
use Rattle.floor_turn.proofs.Sparing.{free_member, free_then}
use Rattle.floor_turn.proofs.server.Server.enter_waiting.Goals as goal

pub returns-in-Ok-clause-moves : goal.returns-in-Ok-clause-moves
returns-in-Ok-clause-moves c = moves_then c.args.self.now.meetings c.join.new.self.meetings c.hear_waiting.new.self.meetings c.join.ensures.moves c.hear_waiting.ensures.moves

pub returns-in-Ok-clause-spares : goal.returns-in-Ok-clause-spares
returns-in-Ok-clause-spares c = λ free.
    let cs = c.args.self.now.connections.conferences in
    let joined = c.in-Ok.ensures.joined in
    free_then cs c.args.self.now.meetings c.join.new.self.meetings c.hear_waiting.new.self.meetings (c.join.ensures.spares free)
    (c.hear_waiting.ensures.spares cs (free_member cs (member_at c.join.new.self.meetings c.args.socket) joined.0 joined.1 (ap (is_held cs) joined.2 ∙ free)))

pub returns-in-Ok-clause-steps : goal.returns-in-Ok-clause-steps
returns-in-Ok-clause-steps c = steps_then c.args.self.now.connections.sockets c.join.new.self.connections.sockets c.hear_waiting.new.self.connections.sockets c.join.ensures.steps c.hear_waiting.ensures.steps

pub returns-in-Err-clause-spares : goal.returns-in-Err-clause-spares
returns-in-Err-clause-spares c = c.join.ensures.spares

pub returns-in-Err-clause-steps : goal.returns-in-Err-clause-steps
returns-in-Err-clause-steps c = steps_more (Fail c.args.socket) c.args.self.now.connections.sockets c.join.new.self.connections.sockets c.turn_away.new.self.sockets (λ slot. refl) c.join.ensures.steps c.turn_away.ensures.failed
