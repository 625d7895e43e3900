use Rattle.std.proofs.Common.{◌≡◌, ◌∙◌, ap, subst, sym}
use Rattle.floor_connections.specs.Table.{client_of, socket_at}
use Rattle.floor_connections.specs.declared.table.Table.{Table}
use Rattle.floor_turn.specs.Moves.{Moves, nothing_taken}
use Rattle.floor_turn.specs.declared.server.Server.{Server}
use Rattle.floor_service.proofs.Attending.{none_comes, others_before, others_stayed}
use Rattle.floor_service.proofs.Moving.{moved_then}
use Rattle.floor_service.proofs.service.Service.shut.Goals as goal

pub returns-clause-moves : goal.returns-clause-moves
returns-clause-moves c = moved_then c.args.self.now.server.meetings c.shut.new.self.meetings c.follow.new.self.server.meetings c.shut.ensures.moves
    (subst (λ (s : Server). Moves nothing_taken s.meetings c.follow.new.self.server.meetings) c.see_off.ensures.server c.follow.ensures.moves)

pub returns-clause-gone : goal.returns-clause-gone
returns-clause-gone c = λ none. none_comes c.args.socket c.see_off.new.self.desk.callers c.follow.new.self.desk.callers c.follow.ensures.attends
    (c.see_off.ensures.gone (ap (λ (t : Table). client_of (socket_at t c.args.socket)) (sym (c.follow.ensures.settles.table ∙ ap (λ (s : Server). s.connections.table) c.see_off.ensures.server)) ∙ none))

pub returns-clause-others : goal.returns-clause-others
returns-clause-others c = others_before c.args.socket c.args.self.now.desk.callers c.see_off.new.self.desk.callers c.follow.new.self.desk.callers
    (others_stayed c.args.socket c.args.self.now.desk.callers c.see_off.new.self.desk.callers c.see_off.ensures.others) c.follow.ensures.attends
