use Rattle.floor_machine.proofs.Sent.{sent_is_told}
use Rattle.floor_machine.proofs.laws.sent_is_told.Goals as goal

pub returns : goal.returns
returns c = sent_is_told
