use Rattle.floor_machine.proofs.Counted.{backlogs_counted}
use Rattle.floor_machine.proofs.laws.backlogs_are_counted.Goals as goal

pub returns : goal.returns
returns c = backlogs_counted
