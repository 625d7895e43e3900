use Rattle.floor_wire.specs.View.{attributes_of}
use Rattle.floor_message.specs.Written.{ask_attrs, tell_attrs}
use Rattle.floor_message.proofs.AskRooms.{ask_fits_room}
use Rattle.floor_message.proofs.Short.{short_contents}
use Rattle.floor_message.proofs.laws.what_is_written_is_short.Goals as goal

pub returns-clause-tell : goal.returns-clause-tell
returns-clause-tell c = λ t fits. short_contents (attributes_of (tell_attrs t)) fits.attributes.writable

pub returns-clause-ask : goal.returns-clause-ask
returns-clause-ask c = λ a fits. short_contents (attributes_of (ask_attrs a)) (ask_fits_room a fits).writable
