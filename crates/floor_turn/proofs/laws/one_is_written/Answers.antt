use Rattle.std.proofs.Common.{refl}
use Rattle.floor_turn.proofs.laws.one_is_written.Goals as goal

pub returns : goal.returns
returns c = record { first = refl; bytes = refl; other = refl; front = c.one_is_written.ensures.front }
