use Rattle.std.proofs.Common.{◌≡◌, map, take}
use Rattle.floor_message.specs.Written.{info_attr}
use Rattle.floor_message.specs.steps.Writing.{with_attrs}
use Rattle.floor_message.proofs.format.floor_request_information.put_infos.Given as goal

abbrev pub invariant-loop-info : goal.invariant-loop-info
invariant-loop-info l = l.out ≡ with_attrs l.initial.out (map info_attr (take l.info-index l.infos))
