use Rattle.std.proofs.Common.{sym, rules}
use Rattle.std.proofs.lemmas.List.Sorted.{IsPartitionPoint-from_clause}
use Rattle.floor_queue.specs.declared.index.rank.Rank.{Rank}
use Rattle.floor_queue.specs.steps.Lines.{before}
use Rattle.floor_queue.proofs.Searching.{position-partition, partitioned-rank}
use Rattle.floor_queue.proofs.index.ranks.place_in.Goals as goal

pub returns : goal.returns
returns c =
    sym
    (position-partition (λ (k : Rank). before k c.args.rank) c.args.ranks.now c.partition_point.result c.args.rank c.partition_point.ensures.bound
    (IsPartitionPoint-from_clause (λ (k : Rank). before k c.args.rank) c.args.ranks.now c.partition_point.result c.partition_point.ensures.partitioned (partitioned-rank c.args.rank c.args.ranks.now c.requires) (λ a r q k. search rules)))
