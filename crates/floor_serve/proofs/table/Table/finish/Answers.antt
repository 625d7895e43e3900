use Rattle.std.proofs.Common.{rules}
use Rattle.floor_serve.proofs.Firsts.{finished-mismatch, some-at}
use Rattle.floor_serve.proofs.table.Table.finish.Goals as goal

pub returns-in-Some : goal.returns-in-Some
returns-in-Some g c =
    finished-mismatch _ _ c.in_ok-found.found.events c.in_ok-found.found.unfit c.first_stray-stray.result c.first_double-double.result c.least.result c.least-unfit.result c.conference.result c.n.result c.in-Some.seat.now
    (search rules) (search rules) (search rules) (search rules) (search rules) (search rules) (some-at c.args.seats.now c.least-unfit.result c.in-Some.seat.now (search rules) (search rules)) (search rules) (search rules)
