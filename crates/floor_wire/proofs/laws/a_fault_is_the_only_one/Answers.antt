use Rattle.floor_wire.proofs.OneReading.{exclusive, one_fault}
use Rattle.floor_wire.proofs.laws.a_fault_is_the_only_one.Goals as goal

pub returns : goal.returns
returns c = record { none = exclusive; only = one_fault }
