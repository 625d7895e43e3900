use Rattle.std.proofs.Common.{◌≡◌, take, map}
use Rattle.floor_machine.specs.steps.Telling.{floor_notice, floor_update}
use Rattle.floor_machine.proofs.tell.notices.floor_notices.Given as goal

abbrev pub invariant-loop-floor : goal.invariant-loop-floor
invariant-loop-floor l = l.notices.items ≡ map (λ f. floor_notice l.conference (floor_update l.now f)) (take l.floor-index l.floors)
