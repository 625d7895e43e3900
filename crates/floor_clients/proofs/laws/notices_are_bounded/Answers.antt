use Rattle.floor_clients.proofs.Bounding as bounding
use Rattle.floor_clients.proofs.laws.notices_are_bounded.Goals as goal

pub returns : goal.returns
returns c = bounding.notices_are_bounded
