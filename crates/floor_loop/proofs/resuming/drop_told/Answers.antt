use Rattle.floor_loop.specs.steps.Moved.{loop_of}
use Rattle.floor_loop.proofs.Carrying.{carries-same}
use Rattle.floor_loop.proofs.resuming.drop_told.Goals as goal

pub returns-in-Err : goal.returns-in-Err
returns-in-Err c = record { carries = carries-same c.args.conference (loop_of c.args.hub.now c.args.attended.now) }
