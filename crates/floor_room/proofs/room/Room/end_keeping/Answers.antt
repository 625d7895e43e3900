use Rattle.std.proofs.Common.{vec_capacity}
use Rattle.floor_room.specs.Room as spec
use Rattle.floor_room.proofs.Adding.{keeps-all}
use Rattle.floor_room.proofs.room.Room.end_keeping.Goals as goal

pub invariant_of-self : goal.invariant_of-self
invariant_of-self c =
    let r : spec.Room = record { ledger = c.self.inside.ledger; outboxes = c.self.inside.outboxes.items; told = c.self.inside.told; kept = c.self.inside.kept } in
    keeps-all r 2000000 (vec_capacity c.self.inside.outboxes) c.self.invariant.room.journal.count c.self.invariant
