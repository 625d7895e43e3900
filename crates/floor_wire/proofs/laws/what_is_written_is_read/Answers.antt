use Rattle.std.proofs.Common.{arith, length}
use Rattle.floor_wire.specs.Spelling.{canon, cleared}
use Rattle.floor_wire.specs.Spelled.{spelled}
use Rattle.floor_wire.proofs.Spelled.{spelled_found}
use Rattle.floor_wire.proofs.Written.{canon_spelled}
use Rattle.floor_wire.proofs.laws.what_is_written_is_read.Goals as goal

pub returns : goal.returns
unfolding spelled
returns c = λ a w. spelled_found (length (canon a)) (cleared a) (canon a) (omega arith) (canon_spelled a w)
