use Rattle.floor_service.proofs.Attending.{others_behind, others_from}
use Rattle.floor_service.proofs.Settled.{settled_then}
use Rattle.floor_service.proofs.service.Service.accepted.Goals as goal

pub returns-in-Ok-clause-joined : goal.returns-in-Ok-clause-joined
returns-in-Ok-clause-joined c = λ l d u p at is.
    (c.accepted-accepted.new.self, c.in-Ok.ensures.joined l d u p at is, settled_then c.accepted-accepted.new.self c.follow.new.self.server c.seat_client.new.self.server c.follow.ensures.settles c.seat_client.ensures.settles)

pub returns-in-Ok-clause-others : goal.returns-in-Ok-clause-others
returns-in-Ok-clause-others c = others_from c.in-Ok.socket c.args.self.now.desk.callers c.pass.new.self.callers c.seat_client.new.self.desk.callers c.pass.ensures.callers
    (others_behind c.in-Ok.socket c.pass.new.self.callers c.follow.new.self.desk.callers c.seat_client.new.self.desk.callers c.follow.ensures.attends c.seat_client.ensures.others)
