use Rattle.floor_wire.proofs.Either.{either}
use Rattle.floor_wire.proofs.laws.bytes_are_spelled_or_faulty.Goals as goal

pub returns : goal.returns
returns c = either
