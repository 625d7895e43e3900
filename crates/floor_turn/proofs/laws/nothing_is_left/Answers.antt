use Rattle.floor_turn.proofs.Resting.{nothing_left}
use Rattle.floor_turn.proofs.laws.nothing_is_left.Goals as goal

pub returns : goal.returns
returns c = nothing_left
