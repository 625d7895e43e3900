use Rattle.floor_service.proofs.Attending.{others_same, others_stayed}
use Rattle.std.proofs.Common.{refl}
use Rattle.floor_service.proofs.service.Service.seat_client.Goals as goal

pub returns-in-None-clause-others : goal.returns-in-None-clause-others
returns-in-None-clause-others c = others_same c.args.socket c.args.self.now.desk.callers c.args.self.now.desk.callers refl

pub returns-in-Err-clause-others : goal.returns-in-Err-clause-others
returns-in-Err-clause-others c = others_stayed c.args.socket c.args.self.now.desk.callers c.join.new.self.callers c.join.ensures.others
