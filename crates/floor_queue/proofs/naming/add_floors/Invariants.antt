use Rattle.std.proofs.Common.{◌≡◌, ℕ, take}
use Rattle.std.specs.Prelude.{◌||◌}
use Rattle.std.specs.List.{list_any}
use Rattle.floor_queue.specs.steps.Lines.{is_lined}
use Rattle.floor_queue.specs.steps.Numbers.{is_in}
use Rattle.floor_queue.proofs.naming.add_floors.Given as goal

abbrev pub invariant-loop-floor : goal.invariant-loop-floor
invariant-loop-floor l =
    (k : ℕ) → is_in k l.numbers ≡ (is_in k l.fn.numbers || list_any (is_lined l.lines k) (take l.floor-index l.floors))
