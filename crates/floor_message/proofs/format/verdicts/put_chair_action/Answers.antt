use Rattle.std.proofs.Common.{◌++◌, ◌∙◌, ap, map, None}
use Rattle.floor_wire.specs.View.{attributes_of}
use Rattle.floor_message.specs.Written.{overall_attrs, verdict_attr}
use Rattle.floor_message.specs.steps.Writing.{with_attrs}
use Rattle.floor_message.proofs.Puts.{put_then}
use Rattle.floor_message.proofs.format.verdicts.put_chair_action.Goals as goal

pub returns : goal.returns
returns c =
    let overall = overall_attrs c.args.request None c.args.reason.now in
    let judged = map verdict_attr c.args.verdicts.now in
    c.end_group.ensures c.args.out.now 15 c.args.request (attributes_of (overall ++ judged)) c.in_ok-start.ensures.0
    (put_then c.begin_group.new.self _ _ overall judged c.in_ok-put_overall.ensures c.in_ok-put_verdicts.ensures
    ∙ ap (λ b. with_attrs b (overall ++ judged)) c.in_ok-start.ensures.1)
