use Rattle.floor_message.proofs.Puts.{length-overall}
use Rattle.floor_message.proofs.format.overall_request_status.overall_len.Goals as goal

pub returns-in-Some-clause-value : goal.returns-in-Some-clause-value
returns-in-Some-clause-value c = λ request.
    length-overall request c.args.reason.now c.in-Some.field-0 c.text_len.result c.in-Some.is (c.text_len.ensures.value 9)
