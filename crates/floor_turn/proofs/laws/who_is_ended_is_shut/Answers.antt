use Rattle.floor_turn.proofs.Ending.{ended_is_shut}
use Rattle.floor_turn.proofs.laws.who_is_ended_is_shut.Goals as goal

pub returns : goal.returns
returns c = ended_is_shut c.who_is_ended_is_shut.ensures
