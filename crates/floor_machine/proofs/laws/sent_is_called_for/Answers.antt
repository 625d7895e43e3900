use Rattle.floor_machine.proofs.Alone.{sent}
use Rattle.floor_machine.proofs.laws.sent_is_called_for.Goals as goal

pub returns : goal.returns
returns c = sent
