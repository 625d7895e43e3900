use Rattle.floor_config.proofs.Kept.{kept_is_built}
use Rattle.floor_config.proofs.laws.kept_is_built.Goals as goal

pub returns : goal.returns
returns c = kept_is_built
