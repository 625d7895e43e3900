use Rattle.std.proofs.Common.{◌≡◌, ◌++◌, length}
use Rattle.std.specs.Vec.Iter.{into_iter_items, into_iter_len}
use Rattle.floor_kept.proofs.Leading.{Led}
use Rattle.floor_kept.proofs.opening.open_kept.Given as goal

-- the entries so far were run or kept
abbrev pub invariant-loop-entry : goal.invariant-loop-entry
invariant-loop-entry l = record {
  all : l.fn.entries.items ≡ l.yielded ++ into_iter_items l.entry-iterator;
  count : into_iter_len l.entry-iterator ≡ length (into_iter_items l.entry-iterator);
  led : Led l.fn.config l.yielded l.room l.notes.items l.number;
}
