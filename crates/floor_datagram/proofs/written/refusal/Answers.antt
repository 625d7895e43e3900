use Rattle.std.proofs.Common.{rules}
use Rattle.floor_datagram.specs.Written.{refusal}
use Rattle.floor_datagram.proofs.written.refusal.Goals as goal

pub returns : goal.returns
unfolding refusal
returns c = search rules
