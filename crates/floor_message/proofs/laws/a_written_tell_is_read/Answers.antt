use Rattle.floor_message.proofs.TellBack.{written_tell}
use Rattle.floor_message.proofs.laws.a_written_tell_is_read.Goals as goal

pub returns : goal.returns
returns c = λ head t h fits. written_tell c.what_is_written_is_read.ensures head t h fits
