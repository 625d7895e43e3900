use Rattle.floor_loop.specs.steps.Moved.{loop_of}
use Rattle.floor_loop.proofs.Carrying.{carries-both}
use Rattle.floor_loop.proofs.resuming.replay_one.Goals as goal

pub returns-in-Ok : goal.returns-in-Ok
returns-in-Ok c = record {
  carries = carries-both c.args.conference (loop_of c.args.hub.now c.args.attended.now) (loop_of c.replay.new.hub c.replay.new.attended) (loop_of c.drop_told.new.hub c.drop_told.new.attended) c.replay.ensures.carries c.drop_told.ensures.carries;
}
