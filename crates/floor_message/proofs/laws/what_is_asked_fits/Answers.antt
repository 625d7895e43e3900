use Rattle.floor_message.proofs.Asked.{asked_fits}
use Rattle.floor_message.proofs.laws.what_is_asked_fits.Goals as goal

pub returns : goal.returns
returns c = asked_fits
