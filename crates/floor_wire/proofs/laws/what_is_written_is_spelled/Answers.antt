use Rattle.floor_wire.proofs.Written.{canon_spelled}
use Rattle.floor_wire.proofs.laws.what_is_written_is_spelled.Goals as goal

pub returns : goal.returns
returns c = canon_spelled
