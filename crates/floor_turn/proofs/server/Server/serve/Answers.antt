use Rattle.std.proofs.Common.{◌≡◌, [], refl, ap, ◌∙◌}
use Rattle.floor_meetings.specs.Members.{member_in}
use Rattle.floor_meetings.specs.Runs.{Came}
use Rattle.floor_meetings.specs.declared.members.Members.{Members}
use Rattle.floor_sockets.specs.Runs.{Served}
use Rattle.floor_connections.specs.Announced.{has_too_long}
use Rattle.floor_connections.specs.Table.{announced_of, socket_at}
use Rattle.floor_connections.proofs.Steps.{steps_more, steps_then}
use Rattle.floor_turn.proofs.Heard.{hears_by}
use Rattle.floor_turn.proofs.Moving.{moves_one, moves_then}
use Rattle.floor_turn.proofs.Sparing.{free_one, free_then}
use Rattle.floor_turn.specs.Held.{is_held_for}
use Rattle.floor_turn.proofs.server.Server.serve.Goals as goal

pub returns-clause-took : goal.returns-clause-took
returns-clause-took c =
    hears_by c.args.socket [] [] (has_too_long (announced_of (socket_at c.args.self.now.connections.table c.args.socket))) (has_too_long (announced_of (socket_at c.note-has_more.new.connections.table c.args.socket)))
    c.is_served.result c.serve-served.result c.args.self.now.meetings c.serve-served.new.self c.end_too_long.new.self.meetings refl c.is_served.ensures.value (ap has_too_long (c.note-has_more.ensures.announced c.args.socket)) (c.serve-served.ensures.members, c.serve-served.ensures.took) c.end_too_long.ensures.over c.end_too_long.ensures.same

pub returns-clause-members : goal.returns-clause-members
returns-clause-members c = c.end_too_long.ensures.members ∙ c.serve-served.ensures.members

pub returns-clause-moves : goal.returns-clause-moves
returns-clause-moves c = moves_then c.args.self.now.meetings c.serve-served.new.self c.end_too_long.new.self.meetings
    (moves_one (Came c.args.socket [] c.serve-served.result) c.args.self.now.meetings c.serve-served.new.self (c.serve-served.ensures.members, c.serve-served.ensures.took) (λ slot. refl)) c.end_too_long.ensures.moves

pub returns-clause-spares : goal.returns-clause-spares
returns-clause-spares c = λ free.
    let cs = c.args.self.now.connections.conferences in
    free_then cs c.args.self.now.meetings c.serve-served.new.self c.end_too_long.new.self.meetings
    (free_one cs (Came c.args.socket [] c.serve-served.result) c.args.self.now.meetings c.serve-served.new.self (c.serve-served.ensures.members, c.serve-served.ensures.took) (λ slot. refl) free)
    (c.end_too_long.ensures.spares cs (ap (λ (ms : Members). is_held_for cs (member_in ms c.args.socket)) c.serve-served.ensures.members ∙ free))

pub returns-clause-steps : goal.returns-clause-steps
returns-clause-steps c =
    steps_then c.args.self.now.connections.sockets c.served.new.self c.end_too_long.new.self.connections.sockets
    (steps_more (Served c.args.socket c.note-has_more.result) c.args.self.now.connections.sockets c.note-has_more.new.connections.sockets c.served.new.self (λ slot. refl) c.note-has_more.ensures.steps c.served.ensures.took) c.end_too_long.ensures.steps
