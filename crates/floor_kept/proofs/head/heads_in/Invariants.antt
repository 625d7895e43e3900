use Rattle.std.proofs.Common.{◌≡◌, ◌++◌}
use Rattle.std.specs.Vec.Iter.{into_iter_items}
use Rattle.floor_kept.specs.steps.Heads.{AreHeadsOfValues}
use Rattle.floor_kept.proofs.head.heads_in.Given as goal

-- each so far has its head
abbrev pub invariant-loop-conference : goal.invariant-loop-conference
invariant-loop-conference l = record {
  all : l.fn.conferences.items ≡ l.yielded ++ into_iter_items l.conference-iterator;
  there : AreHeadsOfValues l.yielded l.heads.items;
}
