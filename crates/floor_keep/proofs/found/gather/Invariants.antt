use Rattle.std.proofs.Common.{◌≡◌, ◌++◌}
use Rattle.std.specs.Vec.Iter.{into_iter_items}
use Rattle.floor_keep.proofs.Gathered.{IsGathered}
use Rattle.floor_keep.proofs.found.gather.Given as goal

-- the entries so far were parted
abbrev pub invariant-loop-entry : goal.invariant-loop-entry
invariant-loop-entry l = record {
  all : l.fn.entries.items ≡ l.yielded ++ into_iter_items l.entry-iterator;
  parted : IsGathered l.yielded l.gathered.events.items l.gathered.notes.items l.gathered.finish;
}
