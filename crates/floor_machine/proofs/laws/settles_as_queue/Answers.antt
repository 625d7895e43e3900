use Rattle.floor_machine.proofs.Together.{settles_as_queue}
use Rattle.floor_machine.proofs.laws.settles_as_queue.Goals as goal

pub returns : goal.returns
returns c = settles_as_queue
