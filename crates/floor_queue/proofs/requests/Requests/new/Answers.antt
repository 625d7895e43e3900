use Rattle.std.proofs.Common.{◌≤◌, refl, rules}
use Rattle.std.specs.Prelude.{All}
use Rattle.floor_queue.proofs.Kept.{IsQueue-empty}
use Rattle.floor_queue.proofs.Lining.{AreLines-new}
use Rattle.floor_queue.proofs.Parting.{AreParties-none}
use Rattle.floor_queue.proofs.requests.Requests.new.Goals as goal

pub invariant_of-result : goal.invariant_of-result
invariant_of-result c =
    let rooms : All (λ f. 1 ≤ f.room) c.in_ok-floors.floors.items = search rules in (
      rw c.new-2.ensures (IsQueue-empty c.in_ok-floors.floors.items rooms),
      rw (c.new-2.ensures, c.in_ok-lines.ensures, c.floors-2.ensures.value, ← c.floors.ensures.value, ← c.in_ok-floors.ensures.items) (AreLines-new c.in_ok-floors.floors.items),
      rw c.new-2.ensures refl,
      rw (c.new-2.ensures, c.new-3.ensures) AreParties-none,
    )
