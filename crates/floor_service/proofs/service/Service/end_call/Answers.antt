use Rattle.floor_service.proofs.Settled.{settled_then}
use Rattle.floor_service.proofs.service.Service.end_call.Goals as goal

pub returns-clause-settles : goal.returns-clause-settles
returns-clause-settles c =
    let seen = c.see_to_touched.new.self.server in
    settled_then c.args.self.now.server seen c.settle_told.new.self.server c.see_to_touched.ensures.settles
    (settled_then seen c.settle.new.self.server c.settle_told.new.self.server c.settle.ensures.settles c.settle_told.ensures.settles)
