use Rattle.floor_serve.proofs.Growing.{failed-on}
use Rattle.floor_serve.proofs.writing.write_counted.Goals as goal

pub returns-in-Err-clause-failed : goal.returns-in-Err-clause-failed
returns-in-Err-clause-failed g c = failed-on _ _ _ c.args.total.now c.in-Err.fault.bytes _ c.in-Err.ensures.failed c.saturating_add-in-Err.ensures
