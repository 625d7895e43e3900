use Rattle.std.proofs.Common.{vec_capacity, arith}
use Rattle.floor_room.specs.Room as spec
use Rattle.floor_room.proofs.Adding.{keeps-more}
use Rattle.floor_room.proofs.room.Room.keep.Goals as goal

pub invariant_of-self : goal.invariant_of-self
invariant_of-self c =
    let r : spec.Room = record { ledger = c.self.inside.ledger; outboxes = c.self.inside.outboxes.items; told = c.self.inside.told; kept = c.self.inside.kept } in
    let more = c.max-self-inside.ensures in
    keeps-more r c.max-self-inside.result (vec_capacity c.self.inside.outboxes) (omega (arith, more)) c.self.invariant
