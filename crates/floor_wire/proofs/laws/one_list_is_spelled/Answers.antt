use Rattle.floor_wire.proofs.OneReading.{unique}
use Rattle.floor_wire.proofs.laws.one_list_is_spelled.Goals as goal

pub returns : goal.returns
returns c = unique
