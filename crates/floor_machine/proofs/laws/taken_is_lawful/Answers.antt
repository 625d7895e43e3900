use Rattle.floor_machine.proofs.Lawful.{taken_is_lawful}
use Rattle.floor_machine.proofs.laws.taken_is_lawful.Goals as goal

pub returns : goal.returns
returns c = taken_is_lawful
