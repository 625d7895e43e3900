use Rattle.floor_loop.specs.steps.Moved.{loop_of}
use Rattle.floor_loop.proofs.Carrying.{carries-same, carries-thrown}
use Rattle.floor_loop.proofs.resuming.throw_own.Goals as goal

pub returns-then-is_of : goal.returns-then-is_of
returns-then-is_of c = record {
  carries = carries-thrown c.args.conference c.args.number (loop_of c.args.hub.now c.args.attended.now) (loop_of c.throw_away.new.hub c.throw_away.new.attended) (c.is_of.ensures.value c.if-is_of.true) c.throw_away.ensures.thrown;
}

pub returns-else-is_of : goal.returns-else-is_of
returns-else-is_of c = record { carries = carries-same c.args.conference (loop_of c.args.hub.now c.args.attended.now) }
