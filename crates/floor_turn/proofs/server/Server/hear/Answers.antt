use Rattle.std.proofs.Common.{◌≡◌, ℕ, List, refl, sym, ap, ◌∙◌, subst, take}
use Rattle.floor_meetings.specs.Meetings.{member_at}
use Rattle.floor_meetings.specs.Members.{member_in}
use Rattle.floor_meetings.specs.Runs.{Came}
use Rattle.floor_meetings.specs.declared.members.Members.{Members}
use Rattle.floor_sockets.specs.Runs.{Came as Reads}
use Rattle.floor_sockets.specs.Sockets.{Sockets}
use Rattle.floor_connections.specs.declared.connections.Connections.{Connections}
use Rattle.floor_connections.specs.Announced.{announcing, has_too_long, own_of}
use Rattle.floor_connections.specs.Log.{GoesOn}
use Rattle.floor_connections.specs.Received.{received}
use Rattle.floor_connections.specs.Steps.{Steps}
use Rattle.floor_connections.specs.Table.{announced_of, socket_at}
use Rattle.floor_connections.proofs.Logging.{goes_same, goes_then}
use Rattle.floor_connections.proofs.Steps.{steps_more, steps_then}
use Rattle.floor_turn.proofs.Heard.{hears_by}
use Rattle.floor_turn.proofs.Moving.{moves_one, moves_then}
use Rattle.floor_turn.proofs.Sparing.{free_one, free_then}
use Rattle.floor_turn.specs.Held.{is_held_for}
use Rattle.floor_turn.proofs.server.Server.hear.Goals as goal

pub returns-clause-heard : goal.returns-clause-heard
returns-clause-heard c =
    let o = announced_of (socket_at c.args.self.now.connections.table c.args.socket) in
    let stands : announced_of (socket_at c.note-has_more.new.connections.table c.args.socket) ≡ announcing c.args.self.now.longest c.args.bytes.now o = c.note-has_more.ensures.announced c.args.socket ∙ c.own_len-own.ensures.here in
    let handed : c.front.result.now ≡ own_of c.args.self.now.longest o c.args.bytes.now = c.front.ensures.value ∙ ap (λ (n : ℕ). take n c.args.bytes.now) c.own_len-own.ensures.value in
    hears_by c.args.socket (own_of c.args.self.now.longest o c.args.bytes.now) c.front.result.now (has_too_long (announcing c.args.self.now.longest c.args.bytes.now o)) (has_too_long (announced_of (socket_at c.note-has_more.new.connections.table c.args.socket)))
    c.is_served.result c.came-served.result c.args.self.now.meetings c.came-served.new.self c.end_too_long.new.self.meetings handed c.is_served.ensures.value (ap has_too_long stands) (c.came-served.ensures.members, c.came-served.ensures.took) c.end_too_long.ensures.over c.end_too_long.ensures.same

pub returns-clause-member : goal.returns-clause-member
returns-clause-member c = c.end_too_long.ensures.member ∙ (c.note-has_more.ensures.member c.args.socket ∙ c.own_len-own.ensures.members c.args.socket)

pub returns-clause-members : goal.returns-clause-members
returns-clause-members c = c.end_too_long.ensures.members ∙ c.came-served.ensures.members

pub returns-clause-moves : goal.returns-clause-moves
returns-clause-moves c = moves_then c.args.self.now.meetings c.came-served.new.self c.end_too_long.new.self.meetings
    (moves_one (Came c.args.socket c.front.result.now c.came-served.result) c.args.self.now.meetings c.came-served.new.self (c.came-served.ensures.members, c.came-served.ensures.took) (λ slot. refl)) c.end_too_long.ensures.moves

pub returns-clause-spares : goal.returns-clause-spares
returns-clause-spares c = λ cs free.
    free_then cs c.args.self.now.meetings c.came-served.new.self c.end_too_long.new.self.meetings
    (free_one cs (Came c.args.socket c.front.result.now c.came-served.result) c.args.self.now.meetings c.came-served.new.self (c.came-served.ensures.members, c.came-served.ensures.took) (λ slot. refl) free)
    (c.end_too_long.ensures.spares cs (ap (λ (ms : Members). is_held_for cs (member_in ms c.args.socket)) c.came-served.ensures.members ∙ free))

pub returns-clause-goes_on : goal.returns-clause-goes_on
returns-clause-goes_on c =
    let old = c.args.self.now.connections in
    let own = c.own_len-own.new.self in
    let plain = c.own_len-own.ensures.plain in
    let first : GoesOn old own = goes_same old own (λ k. ap (λ (x : Connections). received x.conferences k) plain) (record { entries = ap (λ (x : Connections). x.entries.items) plain; untold = ap (λ (x : Connections). x.untold) plain }) in
    let last = c.end_too_long.ensures.log in
    goes_then old c.note-has_more.new.connections c.end_too_long.new.self.connections (goes_then old own c.note-has_more.new.connections first c.note-has_more.ensures.goes_on) (record { received = last.received; more = last.more; entries = last.entries; untold = last.untold })

pub returns-clause-steps : goal.returns-clause-steps
returns-clause-steps c =
    let old = c.args.self.now.connections.sockets in
    let same : c.own_len-own.new.self.sockets ≡ old = ap (λ (x : Connections). x.sockets) c.own_len-own.ensures.plain in
    let noted : Steps old c.note-has_more.new.connections.sockets = subst (λ (s : Sockets). Steps s c.note-has_more.new.connections.sockets) same c.note-has_more.ensures.steps in
    steps_then old c.came.new.self c.end_too_long.new.self.connections.sockets
    (steps_more (Reads c.args.socket c.args.count c.note-has_more.result) old c.note-has_more.new.connections.sockets c.came.new.self (λ slot. refl) noted c.came.ensures.took) c.end_too_long.ensures.steps
