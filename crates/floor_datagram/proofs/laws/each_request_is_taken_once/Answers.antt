use Rattle.floor_datagram.proofs.Serving.{serves}
use Rattle.floor_datagram.proofs.laws.each_request_is_taken_once.Goals as goal

pub returns : goal.returns
returns c = serves
