use Rattle.std.proofs.Common.{◌≡◌, false, take}
use Rattle.std.specs.Prelude.{◌==◌}
use Rattle.std.specs.List.{list_any}
use Rattle.floor_machine.proofs.tell.changed.has_number.Given as goal

-- none of those that were looked at is the number
abbrev pub invariant-loop-k : goal.invariant-loop-k
invariant-loop-k l = list_any (λ k. k == l.number) (take l.k-index l.numbers) ≡ false
