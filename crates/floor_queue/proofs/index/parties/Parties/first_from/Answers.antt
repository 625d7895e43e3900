use Rattle.std.proofs.Common.{◌≡◌, ◌∙◌, ap, arith, length, sym, rules, List}
use Rattle.std.specs.Prelude.{nat_lt, not}
use Rattle.std.specs.List.{position_or_len}
use Rattle.std.proofs.lemmas.List.Sorted.{IsPartitionPoint-from_clause}
use Rattle.floor_queue.specs.declared.index.parties.Party.{Party}
use Rattle.floor_queue.specs.steps.Parties.{by_user}
use Rattle.floor_queue.proofs.Parting.{nobody, partitioned-below}
use Rattle.floor_queue.proofs.Searching.{position-partition}
use Rattle.floor_queue.proofs.index.parties.Parties.first_from.Goals as goal

pub returns : goal.returns
returns c =
    let seen : c.deref.result.now ≡ c.args.self.now = c.deref.ensures.value ∙ c.self.view_is in
    record {
      value =
          sym
          (position-partition (λ (p : Party). nat_lt p.user c.args.user) c.deref.result.now c.partition_point.result nobody c.partition_point.ensures.bound
          (IsPartitionPoint-from_clause (λ (p : Party). nat_lt p.user c.args.user) c.deref.result.now c.partition_point.result c.partition_point.ensures.partitioned
          (partitioned-below c.args.user c.deref.result.now (ap by_user c.deref.ensures.value ∙ c.self.invariant)) (λ a r q k. search rules)))
          ∙ ap (λ (ps : List Party). position_or_len (λ p. not (nat_lt p.user c.args.user)) ps) seen;
      bound = omega (arith, c.partition_point.ensures.bound, ap length seen);
    }
