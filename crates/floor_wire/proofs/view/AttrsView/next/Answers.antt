use Rattle.std.proofs.Common.{◌≡◌, [], ◌∙◌, sym, arith}
use Rattle.std.proofs.lemmas.Grind.{common_steps}
use Rattle.floor_wire.proofs.Viewed.{attrs_in_none}
use Rattle.floor_wire.proofs.view.AttrsView.next.Goals as goal

pub returns-then-is_empty : goal.returns-then-is_empty
returns-then-is_empty c =
    let s = c.self.inside.bytes.now in
    let none : s ≡ [] = grind (arith, common_steps) in
    let shown : c.args.self.now ≡ [] = sym c.self.view_is ∙ attrs_in_none s none in
    (shown, shown)
