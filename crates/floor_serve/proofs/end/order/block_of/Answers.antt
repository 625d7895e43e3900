use Rattle.floor_serve.proofs.Ordered.{block-found}
use Rattle.floor_serve.proofs.end.order.block_of.Goals as goal

pub returns : goal.returns
returns c =
    let from = c.first_from-from.ensures in
    let to = c.first_behind-to.ensures in
    block-found c.args.seats.now c.args.conference c.first_from-from.result c.first_behind-to.result from.within to.within from.lower from.others to.others to.higher
