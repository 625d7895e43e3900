use Rattle.std.proofs.Common.{rules}
use Rattle.floor_datagram.specs.Written.{goodbye_to}
use Rattle.floor_datagram.proofs.written.goodbye.Goals as goal

pub returns : goal.returns
unfolding goodbye_to
returns c = search rules
