use Rattle.std.proofs.Common.{rules}
use Rattle.floor_queue.specs.steps.Lines.{rank_of}
use Rattle.floor_queue.proofs.index.rank.rank_of.Goals as goal

pub returns : goal.returns
unfolding rank_of
returns c = search rules
