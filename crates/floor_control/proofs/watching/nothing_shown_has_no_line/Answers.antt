use Rattle.floor_control.proofs.GoingOn.{nothing-shown}
use Rattle.floor_control.proofs.watching.nothing_shown_has_no_line.Goals as goal

pub returns : goal.returns
returns c = nothing-shown
