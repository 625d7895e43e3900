use Rattle.std.proofs.Common.{◌+◌, ◌++◌, ◌∷◌, length, take, arith, ap, ◌∙◌, sym, append_assoc}
use Rattle.floor_wire.specs.Spelling.{canon, content_canon, zeros_after}
use Rattle.floor_wire.specs.View.{attributes_of, content_of}
use Rattle.floor_wire.specs.steps.Writable.{attribute_bytes}
use Rattle.floor_wire.proofs.Elements.{NextIs-at, canon-attributes_of-take}
use Rattle.floor_wire.proofs.Writing.{put_attribute_is}
use Rattle.floor_wire.proofs.write.+write.Goals as goal

pub put_list-put_attribute-requires : goal.put_list-put_attribute-requires
put_list-put_attribute-requires t c =
    let next = NextIs-at c.args.attrs.now c.loop-attr.attr-index c.attr-item.result (omega arith) c.attr-item.is c.requires in
    (omega (arith, next.smaller, c.decreases), next.writable)

pub put_list-loop-attr-preserved : goal.put_list-loop-attr-preserved
put_list-loop-attr-preserved t c =
    let before = canon (attributes_of (take c.loop-attr.attr-index c.args.attrs.now)) in
    c.in_ok-put_attribute.ensures
    ∙ ap (λ x. x ++ attribute_bytes c.attr-item.result) c.loop-attr.invariant
    ∙ append_assoc c.args.out.now.items before (attribute_bytes c.attr-item.result)
    ∙ ap (λ x. c.args.out.now.items ++ x) (sym (canon-attributes_of-take c.args.attrs.now c.loop-attr.attr-index c.attr-item.result c.loop-attr-test.true c.attr-item.is))

pub put_attribute-returns : goal.put_attribute-returns
put_attribute-returns t c =
    let contents = content_canon (content_of c.args.attr.now.body) in
    put_attribute_is c.args.out.now.items _ _ _ _ _ (content_canon (content_of c.args.attr.now.body)) _ _ _ _
    (omega arith) c.in_ok-push.ensures.items c.in_ok-push-2.ensures.items c.in_ok-put_contents.ensures (omega arith) c.set_length.ensures.value c.in_ok-extend_from_slice.ensures.items c.padding.ensures
    ∙ ap (λ b. c.args.out.now.items ++ b ∷ (2 + length contents) ∷ (contents ++ zeros_after (length contents))) c.first_byte.ensures
