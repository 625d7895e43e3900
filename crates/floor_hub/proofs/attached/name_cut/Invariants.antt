use Rattle.std.proofs.Common.{◌≡◌, ◌≤◌, ◌&&◌, map, take, vec_capacity}
use Rattle.std.specs.Prelude.{◌==◌, filter, not}
use Rattle.std.specs.List.{list_any}
use Rattle.floor_hub.specs.steps.Attached.{AddsNames, IsNaming, marked, numbers_of}
use Rattle.floor_hub.proofs.attached.name_cut.Given as goal

-- so many members are known to be cut, and those of them that were not are named
abbrev pub invariant-loop-n : goal.invariant-loop-n
invariant-loop-n l = record {
  naming : IsNaming l.live.items l.numbers.items (vec_capacity l.numbers);
  marked : l.live.items ≡ map (marked (take l.n-index l.cut)) l.fn.live.items;
  named : AddsNames l.fn.numbers.items l.numbers.items (numbers_of (filter (λ x. list_any (λ k. k == x.n) (take l.n-index l.cut) && not x.is_cut) l.fn.live.items));
  capacity : vec_capacity l.fn.numbers ≤ vec_capacity l.numbers;
}
