use Rattle.floor_hub.specs.Connections.{connection_at}
use Rattle.floor_loop.proofs.Waking.{over-both, over-of}
use Rattle.floor_loop.proofs.turn.is_over.Goals as goal

pub returns : goal.returns
returns c = λ x r is_x is_r.
    over-both r x.n c.is_over.result (over-of c.args.hub.now (connection_at c.args.hub.now.connections c.args.number) x c.is_over.result c.is_over.ensures.value is_x r is_r)
