use Rattle.std.proofs.Common.{rules}
use Rattle.std.proofs.lemmas.Slice.Eq.{slice_eq-Decides}
use Rattle.floor_message.proofs.information.is_same_floors.Goals as goal

pub returns : goal.returns
returns c = slice_eq-Decides (λ x y. search rules) c.args.a.now c.args.b.now c.eq.result c.eq.ensures
