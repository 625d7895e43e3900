use Rattle.floor_message.proofs.AskedNumbers.{asked_numbers}
use Rattle.floor_message.proofs.laws.what_is_asked_is_of_16_bits.Goals as goal

pub returns : goal.returns
returns c = asked_numbers c.what_is_computed_is_spelled.ensures.spelled c.what_is_spelled_is_writable.ensures.writable
