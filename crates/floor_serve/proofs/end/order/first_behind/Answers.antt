use Rattle.std.proofs.Common.{leb, leb-true, leb-false, rules}
use Rattle.std.proofs.lemmas.List.Sorted.{IsPartitionPoint-from_clause, IsPartitionedBy-leb}
use Rattle.floor_serve.proofs.end.order.first_behind.Goals as goal

pub returns-clause-others : goal.returns-clause-others
returns-clause-others c =
    let parted = IsPartitionedBy-leb (λ s. s.conference) _ c.args.conference c.requires in
    let point = IsPartitionPoint-from_clause (λ s. leb s.conference c.args.conference) _ _ c.partition_point.ensures.partitioned parted (λ a r q k. search rules) in
    λ k d l h. leb-true _ _ (point.0 k d l h)

pub returns-clause-higher : goal.returns-clause-higher
returns-clause-higher c =
    let parted = IsPartitionedBy-leb (λ s. s.conference) _ c.args.conference c.requires in
    let point = IsPartitionPoint-from_clause (λ s. leb s.conference c.args.conference) _ _ c.partition_point.ensures.partitioned parted (λ a r q k. search rules) in
    λ k d l h. leb-false _ _ (point.1 k d l h)
