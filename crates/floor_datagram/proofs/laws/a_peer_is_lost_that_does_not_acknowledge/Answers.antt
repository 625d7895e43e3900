use Rattle.floor_datagram.proofs.Losing.{lost-so}
use Rattle.floor_datagram.proofs.laws.a_peer_is_lost_that_does_not_acknowledge.Goals as goal

pub returns : goal.returns
returns c = lost-so
