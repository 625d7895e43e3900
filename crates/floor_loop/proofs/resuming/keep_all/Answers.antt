use Rattle.floor_loop.proofs.Carrying.{carries-same}
use Rattle.floor_loop.specs.steps.Moved.{loop_of}
use Rattle.floor_loop.proofs.Carrying.{carries-both}
use Rattle.floor_loop.proofs.resuming.keep_all.Goals as goal

pub loop-turn-preserved : goal.loop-turn-preserved
loop-turn-preserved c =
    carries-both c.args.conference (loop_of c.args.hub.now c.args.attended.now) (loop_of c.loop-turn.hub c.loop-turn.attended) (loop_of c.keep_one.new.hub c.keep_one.new.attended) c.loop-turn.invariant (c.keep_one.ensures.carries c.args.conference)

pub returns-in_err-keep_one-in-Some : goal.returns-in_err-keep_one-in-Some
returns-in_err-keep_one-in-Some c = record {
  carries = carries-both c.args.conference (loop_of c.args.hub.now c.args.attended.now) (loop_of c.loop-turn.hub c.loop-turn.attended) (loop_of c.keep_one.new.hub c.keep_one.new.attended) c.loop-turn.invariant (c.keep_one.ensures.carries c.args.conference);
}

pub loop-turn-init : goal.loop-turn-init
loop-turn-init c = carries-same c.args.conference (loop_of c.args.hub.now c.args.attended.now)
