use Rattle.floor_message.proofs.Puts.{length-floor_request}
use Rattle.floor_message.proofs.fits.floor_request_len.Goals as goal

pub returns : goal.returns
returns c = λ priority.
    length-floor_request c.args.beneficiary c.args.floors.now priority c.args.info.now c.floors_len.result c.number_len.result c.text_len.result
    c.floors_len.ensures.value (c.number_len.ensures.value 1) (c.text_len.ensures.value 8)
