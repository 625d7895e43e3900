use Rattle.floor_machine.proofs.Counted.{cut-next, cut_silent}
use Rattle.floor_machine.proofs.laws.cut_stays_silent.Goals as goal

pub returns : goal.returns
returns c = record { stays = cut-next; told = cut_silent }
