use Rattle.std.proofs.Common.{◌∙◌, sym}
use Rattle.floor_config.proofs.StandingTwice.{AllDiffer_none, has_double-in_order}
use Rattle.floor_config.proofs.doubles.has_double.Goals as goal

pub returns-clause-value : goal.returns-clause-value
returns-clause-value c =
    has_double-in_order c.args.numbers.items c.sort_unstable.new.self.items c.has_equal_neighbours.result c.sort_unstable.ensures.permutation c.sort_unstable.ensures.sorted
    (rw (c.deref.ensures.value) at c.has_equal_neighbours.ensures.found) (rw (c.deref.ensures.value) at c.has_equal_neighbours.ensures.none)

pub returns-clause-differ : goal.returns-clause-differ
returns-clause-differ c = λ no. AllDiffer_none c.args.numbers.items (sym (returns-clause-value c) ∙ no)
