use Rattle.floor_desk.specs.Attending.{beside}
use Rattle.floor_service.proofs.Attending.{unattended}
use Rattle.floor_service.proofs.service.Service.serve_turn.Goals as goal

pub returns-clause-served : goal.returns-clause-served
returns-clause-served c = record {
  before = c.args.self.now.desk.callers;
  attends = unattended beside c.args.self.now.desk.callers;
  serves = c.serve_client.ensures.served;
}
