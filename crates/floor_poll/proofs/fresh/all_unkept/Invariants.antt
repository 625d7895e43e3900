use Rattle.std.proofs.Common.{◌≡◌, ◌++◌, map}
use Rattle.std.specs.Vec.Iter.{into_iter_items}
use Rattle.floor_poll.specs.declared.fresh.Fresh.TheVariants.{Unkept}
use Rattle.floor_poll.proofs.fresh.all_unkept.Given as goal

-- the configurations so far are there
abbrev pub invariant-loop-config : goal.invariant-loop-config
invariant-loop-config l = record {
  all : l.fn.configs.items ≡ l.yielded ++ into_iter_items l.config-iterator;
  there : l.all.items ≡ map Unkept l.yielded;
}
