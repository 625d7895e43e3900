use Rattle.floor_message.proofs.Puts.{length-chair_action}
use Rattle.floor_message.proofs.format.verdicts.chair_action_len.Goals as goal

pub returns : goal.returns
returns c = λ request.
    length-chair_action request c.args.verdicts.now c.args.reason.now c.overall_len.result (c.overall_len.ensures.value request)
