use Rattle.std.proofs.Common.{◌≡◌, ◌++◌, take, drop, map}
use Rattle.floor_queue.specs.Requested.{floor_without_chair}
use Rattle.floor_queue.proofs.requested_floor.RequestedFloors.take_chair.Given as goal

abbrev pub invariant-loop-requested : goal.invariant-loop-requested
invariant-loop-requested l =
    l.requested-items ≡ map (floor_without_chair l.floor) (take l.requested-index l.fn.self) ++ drop l.requested-index l.fn.self
