use Rattle.std.proofs.Common.{vec_capacity, arith}
use Rattle.floor_room.specs.Room as spec
use Rattle.floor_room.proofs.Adding.{keeps-all}
use Rattle.floor_room.proofs.room.Room.begin_keeping.Goals as goal

pub invariant_of-self : goal.invariant_of-self
invariant_of-self c =
    let r : spec.Room = record { ledger = c.self.inside.ledger; outboxes = c.self.inside.outboxes.items; told = c.self.inside.told; kept = c.self.inside.kept } in
    let all = c.events-self-inside.ensures.value in
    keeps-all r c.events-self-inside.result (vec_capacity c.self.inside.outboxes) (omega (arith, all)) c.self.invariant
