use Rattle.floor_datagram.proofs.Ordering.{comes-placed}
use Rattle.floor_datagram.proofs.laws.fragments_come_in_any_order.Goals as goal

pub returns : goal.returns
returns c = λ d since rs bs cs f m. comes-placed 0 d since rs bs cs f m
