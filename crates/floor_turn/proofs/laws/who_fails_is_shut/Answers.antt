use Rattle.floor_turn.proofs.Ending.{failed_is_shut}
use Rattle.floor_turn.proofs.laws.who_fails_is_shut.Goals as goal

pub returns : goal.returns
returns c = failed_is_shut c.who_fails_is_shut.ensures
