use Rattle.std.proofs.Common.{◌≡◌, ◌∙◌, ap, sym, subst, Some}
use Rattle.floor_wire.specs.Seen.{body_seen}
use Rattle.floor_wire.specs.declared.attribute.Attr.{Attr}
use Rattle.floor_wire.specs.declared.view.BodyView.{BodyView}
use Rattle.floor_wire.specs.declared.view.BodyView.TheVariants as views
use Rattle.floor_message.specs.Picked.{if_kind, group_in}
use Rattle.floor_wire.specs.AttrsCode.{items-attributes_of}
use Rattle.floor_message.proofs.Picking.{kind_holds}
use Rattle.floor_message.proofs.format.group.group_of.Goals as goal

pub returns-in-Group : goal.returns-in-Group
returns-in-Group c =
    let a = c.args.attr.now in
    let seen : BodyView → Attr = λ b. record { kind = a.kind; must = a.must; body = body_seen b } in
    let P : BodyView → Type 0 = λ b. Some (c.in-Group.n, c.copy.result) ≡ if_kind group_in c.args.kind (seen b) in
    subst P (sym c.in-Group.is)
    (ap (λ l. Some (c.in-Group.n, l)) (c.copy.ensures ∙ sym (items-attributes_of c.in-Group.inside))
    ∙ sym (kind_holds group_in c.args.kind (seen (views.Group c.in-Group.n c.in-Group.inside)) c.if-attr-kind.true))
