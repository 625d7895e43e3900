use Rattle.floor_config.proofs.Agreeing as agreeing
use Rattle.floor_config.proofs.laws.read_is_built.Goals as goal

pub returns : goal.returns
returns c = agreeing.read_is_built
