use Rattle.floor_rpc.proofs.RequestsBack.{requests_are_read_back}
use Rattle.floor_rpc.proofs.laws.requests_are_read_back.Goals as goal

pub returns : goal.returns
returns c = requests_are_read_back c.numbers_are_read_back.ensures
