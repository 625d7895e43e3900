use Rattle.floor_loop.specs.steps.Moved.{loop_of}
use Rattle.floor_loop.proofs.Carrying.{carries-same}
use Rattle.floor_loop.proofs.resuming.act.Goals as goal

pub returns-in-Ok-None : goal.returns-in-Ok-None
returns-in-Ok-None c = record { carries = carries-same c.args.conference (loop_of c.args.hub.now c.args.attended.now) }

pub returns-in-Err : goal.returns-in-Err
returns-in-Err c = record { carries = carries-same c.args.conference (loop_of c.args.hub.now c.args.attended.now) }
