use Rattle.std.proofs.Common.{ltb, ltb-true, ltb-false, rules}
use Rattle.std.proofs.lemmas.List.Sorted.{IsPartitionPoint-from_clause, IsPartitionedBy-ltb}
use Rattle.floor_serve.proofs.end.order.first_from.Goals as goal

pub returns-clause-lower : goal.returns-clause-lower
returns-clause-lower c =
    let parted = IsPartitionedBy-ltb (λ s. s.conference) _ c.args.conference c.requires in
    let point = IsPartitionPoint-from_clause (λ s. ltb s.conference c.args.conference) _ _ c.partition_point.ensures.partitioned parted (λ a r q k. search rules) in
    λ k d l h. ltb-true _ _ (point.0 k d l h)

pub returns-clause-others : goal.returns-clause-others
returns-clause-others c =
    let parted = IsPartitionedBy-ltb (λ s. s.conference) _ c.args.conference c.requires in
    let point = IsPartitionPoint-from_clause (λ s. ltb s.conference c.args.conference) _ _ c.partition_point.ensures.partitioned parted (λ a r q k. search rules) in
    λ k d l h. ltb-false _ _ (point.1 k d l h)
