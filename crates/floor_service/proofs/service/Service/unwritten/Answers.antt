use Rattle.floor_service.proofs.Attending.{others_same}
use Rattle.floor_service.proofs.service.Service.unwritten.Goals as goal

pub returns-clause-others : goal.returns-clause-others
returns-clause-others c = others_same c.args.socket c.args.self.now.desk.callers c.pass.new.self.callers c.pass.ensures.callers
