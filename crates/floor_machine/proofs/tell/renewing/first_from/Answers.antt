use Rattle.std.proofs.Common.{◌≡◌, true, false, arith, rules}
use Rattle.std.specs.Prelude.{nat_lt}
use Rattle.std.specs.List.Sorted.{IsPartitionPoint}
use Rattle.std.proofs.lemmas.List.Sorted.{IsPartitionPoint-from_clause}
use Rattle.floor_machine.proofs.Skipped.{over-first, partitioned-rising}
use Rattle.floor_machine.proofs.tell.renewing.first_from.Goals as goal

pub returns-then-number-numbers-clause-behind : goal.returns-then-number-numbers-clause-behind
returns-then-number-numbers-clause-behind c = λ i from within.
    over-first c.args.numbers.now c.args.from i c.args.number c.requires.rising from within c.if-number-numbers.true

pub returns-clause-below : goal.returns-clause-below
returns-clause-below c = λ i from short.
    let point : IsPartitionPoint (λ n. nat_lt n c.args.number ≡ true) (λ n. nat_lt n c.args.number ≡ false) c.args.numbers.now c.partition_point.result =
    IsPartitionPoint-from_clause (λ n. nat_lt n c.args.number) c.args.numbers.now c.partition_point.result c.partition_point.ensures.partitioned
    (partitioned-rising c.args.number c.args.numbers.now c.requires.rising) (λ a r q k. search rules) in
    point.0 i 0 (omega (arith, short, from, c.max.ensures, c.partition_point.ensures.bound, c.requires.within)) (omega (arith, short, from, c.max.ensures))

pub returns-clause-behind : goal.returns-clause-behind
returns-clause-behind c = λ i from within.
    let point : IsPartitionPoint (λ n. nat_lt n c.args.number ≡ true) (λ n. nat_lt n c.args.number ≡ false) c.args.numbers.now c.partition_point.result =
    IsPartitionPoint-from_clause (λ n. nat_lt n c.args.number) c.args.numbers.now c.partition_point.result c.partition_point.ensures.partitioned
    (partitioned-rising c.args.number c.args.numbers.now c.requires.rising) (λ a r q k. search rules) in
    point.1 i 0 (omega (arith, from, c.max.ensures)) within
