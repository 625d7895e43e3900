use Rattle.floor_machine.proofs.SameInfo.{infos_same_is_equal, same_is_equal}
use Rattle.floor_machine.proofs.laws.shown_alike_is_equal.Goals as goal

pub returns : goal.returns
returns c = record { one = same_is_equal; many = infos_same_is_equal }
