use Rattle.floor_loop.specs.Done.{Reads}
use Rattle.floor_loop.specs.steps.Moved.{loop_of}
use Rattle.floor_loop.proofs.Carrying.{carries-moved}
use Rattle.floor_loop.proofs.resuming.read_one.Goals as goal

pub returns : goal.returns
returns c = record {
  carries = λ conference. carries-moved conference (Reads c.args.number c.args.bytes.now 1) (loop_of c.args.hub.now c.args.attended.now) (loop_of c.read_turn.new.hub c.read_turn.new.attended) c.read_turn.ensures.moved;
}
