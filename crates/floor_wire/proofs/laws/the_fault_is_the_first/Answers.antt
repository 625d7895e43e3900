use Rattle.floor_wire.proofs.FirstFault.{first_fault, fault_of_first}
use Rattle.floor_wire.proofs.laws.the_fault_is_the_first.Goals as goal

pub returns : goal.returns
returns c = record { first = first_fault; fault = fault_of_first }
