use Rattle.floor_service.proofs.service.Service.failed.Goals as goal

pub returns-clause-failed : goal.returns-clause-failed
returns-clause-failed c = λ none asked door. (c.failed.new.self, c.failed.ensures.failed asked door, c.follow.ensures.settles)
