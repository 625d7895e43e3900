use Rattle.floor_control.proofs.Staying.{lines_stay}
use Rattle.floor_control.proofs.laws.lines_stay.Goals as goal

pub returns : goal.returns
returns c = lines_stay
