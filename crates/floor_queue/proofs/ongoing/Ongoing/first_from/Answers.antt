use Rattle.std.proofs.Common.{◌∙◌, ap, sym, rules, List}
use Rattle.std.specs.Prelude.{nat_lt, not}
use Rattle.std.specs.List.{position_or_len}
use Rattle.std.proofs.lemmas.List.Sorted.{IsPartitionPoint-from_clause}
use Rattle.floor_queue.specs.declared.request.Request.{Request}
use Rattle.floor_queue.specs.Queue.{is_ascending}
use Rattle.floor_queue.proofs.Searching.{nobody, position-partition, partitioned-number}
use Rattle.floor_queue.proofs.ongoing.Ongoing.first_from.Goals as goal

pub returns : goal.returns
returns c =
    sym
    (position-partition (λ (r : Request). nat_lt r.number c.args.number) c.deref.result.now c.partition_point.result nobody c.partition_point.ensures.bound
    (IsPartitionPoint-from_clause (λ (r : Request). nat_lt r.number c.args.number) c.deref.result.now c.partition_point.result c.partition_point.ensures.partitioned
    (partitioned-number c.args.number c.deref.result.now (ap is_ascending c.deref.ensures.value ∙ c.self.invariant)) (λ a r q k. search rules)))
    ∙ ap (λ (rs : List Request). position_or_len (λ r. not (nat_lt r.number c.args.number)) rs) (c.deref.ensures.value ∙ c.self.view_is)
