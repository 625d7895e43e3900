use Rattle.std.proofs.Common.{◌≡◌, ◌++◌, length}
use Rattle.std.specs.Vec.Iter.{into_iter_items}
use Rattle.floor_ffi.specs.Gives.{OpensEach}
use Rattle.floor_ffi.proofs.opening.open_each.Given as goal

-- those that were given out are open
abbrev pub invariant-loop-config : goal.invariant-loop-config
invariant-loop-config l = record {
  all : l.fn.configs.items ≡ l.yielded ++ into_iter_items l.config-iterator;
  opened : l.opened ≡ length l.yielded;
  opens : OpensEach l.yielded l.fn.hub l.hub;
}
