use Rattle.floor_datagram.proofs.Numbers.{fresh-own}
use Rattle.floor_datagram.proofs.laws.a_notice_has_an_id_of_its_own.Goals as goal

pub returns : goal.returns
returns c = fresh-own
