use Rattle.std.proofs.Common.{Some, get_or, refl, ap, ◌∙◌, ◌∷◌, []}
use Rattle.floor_message.specs.Written.{floor_attr, verdict_attr}
use Rattle.floor_message.specs.declared.verdicts.Verdict.TheVariants.{Accepted}
use Rattle.floor_message.specs.steps.Writing.{with_attrs}
use Rattle.floor_message.proofs.Puts.{put_more}
use Rattle.floor_message.proofs.format.verdicts.put_verdicts.Goals as goal

pub loop-floor-preserved : goal.loop-floor-preserved
loop-floor-preserved c =
    let judged = get_or c.args.verdicts.now c.loop-floor.floor-index (0, Accepted) in
    put_more verdict_attr c.args.verdicts.now c.loop-floor.floor-index judged (0, Accepted) c.args.out.now c.loop-floor.out c.put_floor_status.new.out c.loop-floor-test.true refl c.loop-floor.invariant
    (c.in_ok-put_floor_status.ensures ∙ ap (λ s. with_attrs c.loop-floor.out (floor_attr (judged.0, Some (s, 0)) ∷ [])) c.status_of.ensures)
