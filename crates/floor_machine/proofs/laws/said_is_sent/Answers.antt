use Rattle.floor_machine.proofs.Spoken.{said_is_sent}
use Rattle.floor_machine.proofs.laws.said_is_sent.Goals as goal

pub returns : goal.returns
returns c = said_is_sent
