use Rattle.floor_meetings.proofs.Living.{law}
use Rattle.floor_meetings.proofs.laws.taken_is_called_for.Goals as goal

pub returns : goal.returns
returns c = law c.written_is_called_for.ensures
