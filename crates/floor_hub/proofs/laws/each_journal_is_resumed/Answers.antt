use Rattle.floor_hub.proofs.Stepping.{journals_are_resumed}
use Rattle.floor_hub.proofs.laws.each_journal_is_resumed.Goals as goal

pub returns : goal.returns
returns c = journals_are_resumed
