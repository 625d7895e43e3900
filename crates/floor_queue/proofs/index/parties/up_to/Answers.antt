use Rattle.std.proofs.Common.{sym, rules}
use Rattle.std.specs.Prelude.{nat_le}
use Rattle.std.proofs.lemmas.List.Sorted.{IsPartitionPoint-from_clause}
use Rattle.floor_queue.specs.declared.index.parties.Party.{Party}
use Rattle.floor_queue.proofs.Parting.{nobody, partitioned-up_to}
use Rattle.floor_queue.proofs.Searching.{position-partition}
use Rattle.floor_queue.proofs.index.parties.up_to.Goals as goal

pub returns : goal.returns
returns c =
    record {
      value =
          sym
          (position-partition (λ (p : Party). nat_le p.user c.args.user) c.args.parties.now c.partition_point.result nobody c.partition_point.ensures.bound
          (IsPartitionPoint-from_clause (λ (p : Party). nat_le p.user c.args.user) c.args.parties.now c.partition_point.result c.partition_point.ensures.partitioned (partitioned-up_to c.args.user c.args.parties.now c.requires) (λ a r q k. search rules)));
      bound = c.partition_point.ensures.bound;
    }
