use Rattle.floor_loop.proofs.Calling.{law}
use Rattle.floor_loop.proofs.laws.written_is_called_for.Goals as goal

pub returns : goal.returns
returns c = law c.conference_alone.ensures.events
