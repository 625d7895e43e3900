use Rattle.std.proofs.Common.{subst}
use Rattle.floor_connections.specs.Asked.{writes}
use Rattle.floor_meetings.specs.Meetings.{lent_at}
use Rattle.floor_sockets.specs.Sockets.{life_at}
use Rattle.floor_turn.specs.Moves.{taken_at, taken_of}
use Rattle.floor_desk.specs.declared.callers.Callers.{Callers}
use Rattle.floor_service.specs.Calls.{FirstAt, Takes}
use Rattle.floor_service.proofs.Moving.{taken_then}
use Rattle.floor_service.proofs.service.Service.took.Goals as goal

pub returns-then-is_client-clause-taken : goal.returns-then-is_client-clause-taken
returns-then-is_client-clause-taken c = λ there asked.
    subst (λ (cs : Callers). FirstAt c.args.socket (Takes c.args.count) cs c.client_took.new.self.desk.callers) c.pass.ensures.callers (c.client_took.ensures.taken asked)

pub returns-clause-took : goal.returns-clause-took
returns-clause-took c = λ none asked. (c.took.new.self, c.took.ensures.took asked, c.follow.ensures.settles)

pub returns-clause-member : goal.returns-clause-member
returns-clause-member c = λ none.
    taken_then (taken_at c.args.socket (taken_of (writes (life_at c.args.self.now.server.connections.sockets c.args.socket)) c.args.count (lent_at c.args.self.now.server.meetings c.args.socket)))
    c.args.self.now.server.meetings c.took.new.self.meetings c.follow.new.self.server.meetings c.took.ensures.moves c.follow.ensures.moves
