use Rattle.std.proofs.Common.{◌≡◌, take}
use Rattle.floor_machine.specs.Reply.{infos_on}
use Rattle.floor_machine.proofs.information.copying.infos_on.Given as goal

abbrev pub invariant-loop-shared : goal.invariant-loop-shared
invariant-loop-shared l = l.on.items ≡ infos_on l.floor (take l.shared-index l.infos)
