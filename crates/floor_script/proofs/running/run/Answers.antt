use Rattle.floor_script.proofs.Reading.{exits_err, exits_ok}
use Rattle.floor_script.proofs.running.run.Goals as goal

pub returns-in-Ok : goal.returns-in-Ok
returns-in-Ok g c = exits_ok _ _ _ _ c.in-Ok.ensures

pub returns-in-Err : goal.returns-in-Err
returns-in-Err g c = exits_err c.in-Err.fault c.status.result _ _ _ _ c.status.ensures.value c.in-Err.ensures
