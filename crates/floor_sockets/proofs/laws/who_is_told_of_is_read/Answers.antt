use Rattle.floor_sockets.proofs.Hearing as proved
use Rattle.floor_sockets.proofs.laws.who_is_told_of_is_read.Goals as goal

pub returns : goal.returns
returns c = proved.who_is_told_of
