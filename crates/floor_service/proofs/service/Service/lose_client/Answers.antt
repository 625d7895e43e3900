use Rattle.floor_service.proofs.Attending.{others_stayed}
use Rattle.floor_service.proofs.service.Service.lose_client.Goals as goal

pub returns-clause-others : goal.returns-clause-others
returns-clause-others c = others_stayed c.args.socket c.args.self.now.desk.callers c.remove.new.self c.remove.ensures.others
