use Rattle.std.proofs.Common.{◌≡◌, map, take}
use Rattle.floor_message.specs.Written.{verdict_attr}
use Rattle.floor_message.specs.steps.Writing.{with_attrs}
use Rattle.floor_message.proofs.format.verdicts.put_verdicts.Given as goal

abbrev pub invariant-loop-floor : goal.invariant-loop-floor
invariant-loop-floor l = l.out ≡ with_attrs l.initial.out (map verdict_attr (take l.floor-index l.verdicts))
