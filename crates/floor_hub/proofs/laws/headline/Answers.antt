use Rattle.floor_hub.proofs.Queueing.{headline}
use Rattle.floor_hub.proofs.laws.headline.Goals as goal

pub returns : goal.returns
returns c = headline
