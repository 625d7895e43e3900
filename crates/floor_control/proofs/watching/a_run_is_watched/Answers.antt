use Rattle.floor_control.specs.WatchedRun.{run_is_watched}
use Rattle.floor_control.proofs.watching.a_run_is_watched.Goals as goal

pub returns : goal.returns
returns c = run_is_watched
