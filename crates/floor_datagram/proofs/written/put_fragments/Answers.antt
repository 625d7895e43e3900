use Rattle.std.proofs.Common.{[], ◌∷◌, ◌++◌, ap, ◌∙◌}
use Rattle.floor_datagram.proofs.Pieces.{fragments-more}
use Rattle.floor_datagram.proofs.written.put_fragments.Goals as goal

pub loop-place-preserved : goal.loop-place-preserved
loop-place-preserved c =
    fragments-more c.args.units c.args.message.now c.loop-place.place c.args.pieces.now.items c.loop-place.pieces.items c.push.new.self.items c.offset_at-offset.result
    c.offset_at-offset.ensures.value c.loop-place.invariant
    (c.in_ok-push.ensures.items ∙ ap (λ x. c.loop-place.pieces.items ++ x ∷ []) c.in_ok-fragment_from.ensures.value)
