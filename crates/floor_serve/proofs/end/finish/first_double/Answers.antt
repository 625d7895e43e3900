use Rattle.std.proofs.Common.{length, refl}
use Rattle.floor_serve.proofs.Firsts.{first-none}
use Rattle.floor_serve.proofs.Ordered.{ascend-single}
use Rattle.floor_serve.specs.steps.First.{SingleAt}
use Rattle.floor_serve.proofs.end.finish.first_double.Goals as goal

pub returns-in-Ascending : goal.returns-in-Ascending
returns-in-Ascending c = first-none (SingleAt c.args.seats.now) (length c.args.seats.now) (length c.args.seats.now) refl (λ k l. ascend-single c.args.seats.now (c.requires c.in-Ascending.is) k)
