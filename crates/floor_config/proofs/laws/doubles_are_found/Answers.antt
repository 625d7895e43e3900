use Rattle.floor_config.proofs.StandingTwice.{finds_doubles}
use Rattle.floor_config.proofs.laws.doubles_are_found.Goals as goal

pub returns : goal.returns
returns c = finds_doubles
