use Rattle.std.proofs.Common.{◌≡◌, ℕ, take}
use Rattle.std.specs.Prelude.{◌||◌, ◌==◌}
use Rattle.std.specs.List.{list_any}
use Rattle.floor_queue.specs.steps.Numbers.{is_in}
use Rattle.floor_queue.proofs.naming.add_ranks.Given as goal

abbrev pub invariant-loop-rank : goal.invariant-loop-rank
invariant-loop-rank l =
    (k : ℕ) → is_in k l.numbers ≡ (is_in k l.fn.numbers || list_any (λ x. x.number == k) (take l.rank-index l.ranks))
