use Rattle.std.proofs.Common.{◌≡◌, ◌++◌, take, map, ℕ}
use Rattle.std.specs.Prelude.{Option}
use Rattle.floor_machine.proofs.tell.renewing.note_floors.Given as goal

abbrev pub invariant-loop-shown : goal.invariant-loop-shown
invariant-loop-shown l = l.floors.items ≡ l.fn.floors.items ++ map (λ (f : ℕ × Option (ℕ × ℕ)). f.0) (take l.shown-index l.info.floors)
