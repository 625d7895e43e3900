use Rattle.std.proofs.Common.{◌∙◌, ap, sym, rules, List, ℕ}
use Rattle.std.specs.Prelude.{nat_lt, not}
use Rattle.std.specs.List.{position_or_len}
use Rattle.std.proofs.lemmas.List.Sorted.{IsPartitionPoint-from_clause}
use Rattle.floor_queue.specs.steps.Numbers.{ascend}
use Rattle.floor_queue.proofs.Numbering.{partitioned-ascend}
use Rattle.floor_queue.proofs.Searching.{position-partition}
use Rattle.floor_queue.proofs.index.numbers.AscendingNumbers.first_from.Goals as goal

pub returns : goal.returns
returns c =
    sym
    (position-partition (λ n. nat_lt n c.args.number) c.deref.result.now c.partition_point.result 0 c.partition_point.ensures.bound
    (IsPartitionPoint-from_clause (λ n. nat_lt n c.args.number) c.deref.result.now c.partition_point.result c.partition_point.ensures.partitioned
    (partitioned-ascend c.args.number c.deref.result.now (ap ascend c.deref.ensures.value ∙ c.self.invariant)) (λ a r q k. search rules)))
    ∙ ap (λ (ns : List ℕ). position_or_len (λ n. not (nat_lt n c.args.number)) ns) (c.deref.ensures.value ∙ c.self.view_is)
