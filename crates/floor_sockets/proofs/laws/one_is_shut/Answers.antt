use Rattle.floor_sockets.proofs.Worked as proved
use Rattle.floor_sockets.proofs.laws.one_is_shut.Goals as goal

pub returns : goal.returns
returns c = proved.one_is_shut
