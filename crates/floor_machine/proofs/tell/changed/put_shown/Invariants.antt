use Rattle.std.proofs.Common.{◌≡◌, ◌++◌, take}
use Rattle.floor_machine.specs.steps.Telling.{infos_told}
use Rattle.floor_machine.proofs.tell.changed.put_shown.Given as goal

-- those that were gone over are handed out
abbrev pub invariant-loop-update : goal.invariant-loop-update
invariant-loop-update l = l.changed.items ≡ l.initial.changed.items ++ infos_told (take l.update-index l.updates)
