use Rattle.floor_datagram.proofs.Holding.{holds}
use Rattle.floor_datagram.proofs.laws.what_a_session_holds_is_bounded.Goals as goal

pub returns : goal.returns
returns c = holds
