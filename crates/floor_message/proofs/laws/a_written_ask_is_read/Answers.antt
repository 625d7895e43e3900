use Rattle.floor_message.proofs.AskBack.{written_ask}
use Rattle.floor_message.proofs.laws.a_written_ask_is_read.Goals as goal

pub returns : goal.returns
returns c = λ head binding a h own fits. written_ask c.what_is_written_is_read.ensures head binding a h own fits
