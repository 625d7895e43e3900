use Rattle.floor_turn.proofs.Living.{law}
use Rattle.floor_turn.proofs.laws.taken_is_called_for.Goals as goal

pub returns : goal.returns
returns c = law c.taken_is_called_for.ensures
