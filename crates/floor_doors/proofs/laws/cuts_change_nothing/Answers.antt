use Rattle.floor_doors.proofs.Cuts as cuts
use Rattle.floor_doors.proofs.laws.cuts_change_nothing.Goals as goal

pub returns : goal.returns
returns c = cuts.cuts_change_nothing
