use Rattle.floor_sockets.proofs.Silent as proved
use Rattle.floor_sockets.proofs.laws.who_says_nothing_is_shut.Goals as goal

pub returns : goal.returns
returns c = proved.who_says_nothing
