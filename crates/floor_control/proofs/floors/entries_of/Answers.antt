use Rattle.std.proofs.Common.{arith}
use Rattle.std.proofs.lemmas.Grind.{common_steps, flat_map-append}
use Rattle.floor_control.proofs.floors.entries_of.Goals as goal

pub loop-info-preserved : goal.loop-info-preserved
loop-info-preserved c = grind (arith, common_steps, flat_map-append)
