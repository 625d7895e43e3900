use Rattle.std.proofs.Common.{rules}
use Rattle.floor_queue.specs.steps.Lines.{before}
use Rattle.floor_queue.proofs.index.rank.before.Goals as goal

pub returns : goal.returns
unfolding before
returns c = search rules
