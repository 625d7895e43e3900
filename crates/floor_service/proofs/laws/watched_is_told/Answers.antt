use Rattle.floor_service.proofs.Living.{watched_is_told}
use Rattle.floor_service.proofs.laws.watched_is_told.Goals as goal

pub returns : goal.returns
returns c = watched_is_told c.watched_is_told.ensures
