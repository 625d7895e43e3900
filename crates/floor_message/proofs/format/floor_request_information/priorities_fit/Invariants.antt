use Rattle.std.proofs.Common.{take}
use Rattle.std.specs.Prelude.{All}
use Rattle.floor_message.specs.Fits.{PriorityFits}
use Rattle.floor_message.proofs.format.floor_request_information.priorities_fit.Given as goal

abbrev pub invariant-loop-info : goal.invariant-loop-info
invariant-loop-info l = All PriorityFits (take l.info-index l.infos)
