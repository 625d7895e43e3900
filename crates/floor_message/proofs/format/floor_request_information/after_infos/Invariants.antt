use Rattle.std.proofs.Common.{map, take, Some}
use Rattle.floor_message.specs.steps.Leaves.{Leaves}
use Rattle.floor_message.specs.Written.{info_attr}
use Rattle.floor_message.proofs.format.floor_request_information.after_infos.Given as goal

abbrev pub invariant-loop-info : goal.invariant-loop-info
invariant-loop-info l = Leaves (map info_attr (take l.info-index l.infos)) l.initial.left (Some l.left)
