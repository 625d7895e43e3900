use Rattle.floor_datagram.proofs.Numbers.{late-is-older}
use Rattle.floor_datagram.proofs.laws.a_late_copy_is_older.Goals as goal

pub returns : goal.returns
returns c = late-is-older
