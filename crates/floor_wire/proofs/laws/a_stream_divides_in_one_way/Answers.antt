use Rattle.floor_wire.proofs.Messages.{divides, only, only_rest}
use Rattle.floor_wire.proofs.laws.a_stream_divides_in_one_way.Goals as goal

pub returns : goal.returns
returns c = record { divides = divides; only = λ s ms more d. (only s ms more d, only_rest s ms more d) }
