use Rattle.std.proofs.Common.{sym, subst, vec_capacity}
use Rattle.floor_room.specs.steps.Kept.{Keeps}
use Rattle.floor_room.specs.Ledger as ledgers
use Rattle.floor_room.specs.Room as spec
use Rattle.floor_room.proofs.Adding.{keeps-broken}
use Rattle.floor_room.proofs.room.Room.break_off.Goals as goal

pub invariant_of-self : goal.invariant_of-self
invariant_of-self c =
    let r : spec.Room = record { ledger = c.self.inside.ledger; outboxes = c.self.inside.outboxes.items; told = c.self.inside.told; kept = c.self.inside.kept } in
    subst (λ (x : ledgers.Ledger). Keeps (record { ledger = x; outboxes = c.self.inside.outboxes.items; told = c.self.inside.told; kept = c.self.inside.kept }) (vec_capacity c.self.inside.outboxes)) (sym c.break_off.ensures.next)
    (keeps-broken r (vec_capacity c.self.inside.outboxes) c.self.invariant)
