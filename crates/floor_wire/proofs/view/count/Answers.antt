use Rattle.std.proofs.Common.{◌≡◌, [], arith, ap, length}
use Rattle.std.proofs.lemmas.Grind.{common_steps}
use Rattle.floor_wire.proofs.Viewed.{attrs_in_none}
use Rattle.floor_wire.proofs.view.count.Goals as goal

pub returns : goal.returns
returns c =
    let s = c.loop-rest.rest.now in
    let none : s ≡ [] = grind (arith, common_steps) in
    omega (arith, c.loop-rest.invariant.sum, ap length (attrs_in_none s none))
