use Rattle.std.proofs.Common.{◌≤◌, take, vec_capacity}
use Rattle.std.specs.Prelude.{◌==◌, filter}
use Rattle.std.specs.List.{list_any}
use Rattle.floor_hub.specs.steps.Attached.{AddsNames, IsNaming, numbers_of}
use Rattle.floor_hub.proofs.attached.name_told.Given as goal

-- those of so many members are named
abbrev pub invariant-loop-n : goal.invariant-loop-n
invariant-loop-n l = record {
  naming : IsNaming l.live l.numbers.items (vec_capacity l.numbers);
  named : AddsNames l.fn.numbers.items l.numbers.items (numbers_of (filter (λ x. list_any (λ k. k == x.n) (take l.n-index l.told)) l.live));
  capacity : vec_capacity l.fn.numbers ≤ vec_capacity l.numbers;
}
