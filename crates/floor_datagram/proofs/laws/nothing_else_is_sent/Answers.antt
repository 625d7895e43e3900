use Rattle.floor_datagram.proofs.Sending.{sends}
use Rattle.floor_datagram.proofs.laws.nothing_else_is_sent.Goals as goal

pub returns : goal.returns
returns c = sends
