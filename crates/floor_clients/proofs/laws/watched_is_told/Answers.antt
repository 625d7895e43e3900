use Rattle.floor_clients.proofs.Watching as watching
use Rattle.floor_clients.proofs.laws.watched_is_told.Goals as goal

pub returns : goal.returns
returns c = watching.watched_is_told
