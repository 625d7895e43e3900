use Rattle.std.proofs.Common.{◌≤◌, length, vec_capacity, arith}
use Rattle.floor_room.specs.Room as spec
use Rattle.floor_room.proofs.Taking.{outboxes-few}
use Rattle.floor_room.proofs.room.Room.members.Goals as goal

pub overflow_cast-result : goal.overflow_cast-result
overflow_cast-result c =
    let r : spec.Room = record { ledger = c.self.inside.ledger; outboxes = c.self.inside.outboxes.items; told = c.self.inside.told; kept = c.self.inside.kept } in
    let few : length c.self.inside.outboxes.items ≤ 2000000 = outboxes-few r (vec_capacity c.self.inside.outboxes) c.self.invariant in
    omega arith
