use Rattle.floor_control.proofs.GoingOn.{watched-both, watched-on}
use Rattle.floor_control.proofs.watching.watched_goes_on.Goals as goal

pub returns : goal.returns
returns c = record { first = watched-on; both = watched-both }
