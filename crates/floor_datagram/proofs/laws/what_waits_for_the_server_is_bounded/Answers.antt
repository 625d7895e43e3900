use Rattle.floor_datagram.proofs.Passing.{has-room}
use Rattle.floor_datagram.proofs.laws.what_waits_for_the_server_is_bounded.Goals as goal

pub returns : goal.returns
returns c = has-room
