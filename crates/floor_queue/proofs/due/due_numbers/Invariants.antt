use Rattle.std.proofs.Common.{◌≡◌, ℕ, take}
use Rattle.std.specs.Prelude.{◌==◌}
use Rattle.std.specs.List.{list_any}
use Rattle.floor_queue.specs.steps.Lines.{line_shows}
use Rattle.floor_queue.specs.steps.Numbers.{is_in}
use Rattle.floor_queue.proofs.due.due_numbers.Given as goal

abbrev pub invariant-loop-line : goal.invariant-loop-line
invariant-loop-line l =
    (k : ℕ) → is_in k l.numbers ≡ list_any (line_shows l.floors l.lines l.requests (λ n. n == k)) (take l.line-index l.lines)
