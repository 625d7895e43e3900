use Rattle.std.proofs.Common.{arith, length}
use Rattle.floor_wire.specs.Spelled.{spelled}
use Rattle.floor_wire.proofs.Found.{found_is_spelled}
use Rattle.floor_wire.proofs.Spelled.{spelled_found}
use Rattle.floor_wire.proofs.laws.what_is_computed_is_spelled.Goals as goal

pub returns : goal.returns
unfolding spelled
returns c = record {
  found = λ a s p. spelled_found (length s) a s (omega arith) p;
  spelled = λ a s h e. found_is_spelled s a h e;
}
