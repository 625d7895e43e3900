use Rattle.floor_sockets.proofs.Running as proved
use Rattle.floor_sockets.proofs.laws.who_fails_is_shut.Goals as goal

pub returns : goal.returns
returns c = proved.who_fails
