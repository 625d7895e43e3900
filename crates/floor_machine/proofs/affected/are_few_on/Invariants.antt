use Rattle.std.proofs.Common.{◌≡◌, ◌+◌, take}
use Rattle.floor_machine.specs.steps.Renewing.{naming}
use Rattle.floor_machine.proofs.affected.are_few_on.Given as goal

abbrev pub invariant-loop-floor : goal.invariant-loop-floor
invariant-loop-floor l = l.left + naming l.requests.ongoing (take l.floor-index l.floors) ≡ l.fn.most
