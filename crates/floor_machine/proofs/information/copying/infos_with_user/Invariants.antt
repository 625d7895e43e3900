use Rattle.std.proofs.Common.{◌≡◌, take}
use Rattle.floor_machine.specs.steps.Telling.{infos_with_user}
use Rattle.floor_machine.proofs.information.copying.infos_with_user.Given as goal

abbrev pub invariant-loop-shared : goal.invariant-loop-shared
invariant-loop-shared l = l.own.items ≡ infos_with_user l.user (take l.shared-index l.infos)
