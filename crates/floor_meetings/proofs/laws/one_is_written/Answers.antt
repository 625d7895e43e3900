use Rattle.std.proofs.Common.{refl}
use Rattle.floor_meetings.proofs.laws.one_is_written.Goals as goal

pub returns : goal.returns
returns c = record { first = refl; bytes = refl; other = refl; front = c.hello_is_written.ensures.both }
