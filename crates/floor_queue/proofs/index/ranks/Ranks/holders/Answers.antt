use Rattle.std.proofs.Common.{◌≡◌, ◌∙◌, ap, sym, rules, List, true}
use Rattle.std.specs.Prelude.{count_by}
use Rattle.std.proofs.lemmas.List.Sorted.{IsPartitionPoint-from_clause}
use Rattle.floor_queue.specs.declared.index.rank.Rank.{Rank}
use Rattle.floor_queue.specs.steps.Lines.{is_in_order}
use Rattle.floor_queue.proofs.Holding.{count-granted, no_rank, partitioned-granted}
use Rattle.floor_queue.proofs.Searching.{position-partition}
use Rattle.floor_queue.proofs.index.ranks.Ranks.holders.Goals as goal

pub returns : goal.returns
returns c =
    let in_order : is_in_order c.deref.result.now ≡ true = ap is_in_order c.deref.ensures.value ∙ c.self.invariant in
    sym
    (count-granted c.deref.result.now in_order
    ∙ position-partition (λ (k : Rank). k.is_granted) c.deref.result.now c.partition_point.result no_rank c.partition_point.ensures.bound
    (IsPartitionPoint-from_clause (λ (k : Rank). k.is_granted) c.deref.result.now c.partition_point.result c.partition_point.ensures.partitioned (partitioned-granted c.deref.result.now in_order) (λ a r q k. search rules)))
    ∙ ap (λ (ks : List Rank). count_by (λ k. k.is_granted) ks) (c.deref.ensures.value ∙ c.self.view_is)
