use Rattle.floor_message.proofs.ShownRooms.{shown_fits}
use Rattle.floor_message.proofs.laws.what_is_shown_fits.Goals as goal

pub returns : goal.returns
returns c = shown_fits
