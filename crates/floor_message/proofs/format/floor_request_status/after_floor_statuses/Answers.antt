use Rattle.std.proofs.Common.{Some, None, map, get_or, refl, ℕ, Option}
use Rattle.floor_message.specs.Written.{floor_attr}
use Rattle.floor_message.proofs.Rooms.{leaves_more, leaves_stopped, leaves_told}
use Rattle.floor_message.proofs.format.floor_request_status.after_floor_statuses.Goals as goal

pub returns-in_err-left : goal.returns-in_err-left
returns-in_err-left c =
    let absent : ℕ × Option (ℕ × ℕ) = (0, None) in
    leaves_told (map floor_attr c.args.floors.now) c.args.room c.from_residual.result c.from_residual.ensures
    (leaves_stopped floor_attr c.args.floors.now c.loop-floor.floor-index (get_or c.args.floors.now c.loop-floor.floor-index absent) absent
    c.args.room c.loop-floor.left c.loop-floor-test.true refl c.loop-floor.invariant c.in_err-left.ensures)

pub loop-floor-preserved : goal.loop-floor-preserved
loop-floor-preserved c =
    let absent : ℕ × Option (ℕ × ℕ) = (0, None) in
    leaves_more floor_attr c.args.floors.now c.loop-floor.floor-index (get_or c.args.floors.now c.loop-floor.floor-index absent) absent
    c.args.room c.loop-floor.left (Some c.in_ok-left.left) c.loop-floor-test.true refl c.loop-floor.invariant c.in_ok-left.ensures
