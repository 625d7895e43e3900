use Rattle.std.proofs.Common.{◌≡◌, ◌++◌, take, drop, map}
use Rattle.floor_config.specs.Changed.{chaired}
use Rattle.floor_queue.proofs.requests.put_chair.Given as goal

abbrev pub invariant-loop-known : goal.invariant-loop-known
invariant-loop-known l = l.known-items ≡ map (chaired l.floor l.chair) (take l.known-index l.fn.floors.items) ++ drop l.known-index l.fn.floors.items
