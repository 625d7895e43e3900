use Rattle.std.proofs.Common.{refl}
use Rattle.floor_queue.proofs.Kept.{IsQueue-clear}
use Rattle.floor_queue.proofs.Lining.{AreLines-cleared}
use Rattle.floor_queue.proofs.Parting.{AreParties-none}
use Rattle.floor_queue.proofs.requests.Requests.clear.Goals as goal

pub invariant_of-self : goal.invariant_of-self
invariant_of-self c = (
  rw c.clear.ensures
      (IsQueue-clear record { floors = c.self.inside.floors.items; given = c.self.inside.given; ongoing = c.self.inside.ongoing } c.self.invariant.0),
  rw (c.clear.ensures, c.clear-2.ensures)
      (AreLines-cleared c.self.inside.floors.items c.self.inside.ongoing c.self.inside.lines c.self.invariant.1),
  rw c.clear.ensures refl,
  rw (c.clear.ensures, c.clear-3.ensures) AreParties-none,
)
