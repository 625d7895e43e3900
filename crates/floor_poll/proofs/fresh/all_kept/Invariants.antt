use Rattle.std.proofs.Common.{◌≡◌, ◌++◌, map}
use Rattle.std.specs.Vec.Iter.{into_iter_items}
use Rattle.floor_poll.specs.declared.fresh.Fresh.TheVariants.{Kept}
use Rattle.floor_poll.proofs.fresh.all_kept.Given as goal

-- the heads so far are there
abbrev pub invariant-loop-head : goal.invariant-loop-head
invariant-loop-head l = record {
  all : l.fn.heads.items ≡ l.yielded ++ into_iter_items l.head-iterator;
  there : l.all.items ≡ map Kept l.yielded;
}
