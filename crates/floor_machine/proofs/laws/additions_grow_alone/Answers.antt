use Rattle.floor_machine.specs.Conference.{opening}
use Rattle.floor_machine.specs.Journal.{after}
use Rattle.floor_machine.proofs.Growing.{grows_alone}
use Rattle.floor_machine.proofs.Reachable.{keeps-after, keeps-opening}
use Rattle.floor_machine.proofs.laws.additions_grow_alone.Goals as goal

pub returns : goal.returns
returns c = λ config es e is journal grows lawful.
    grows_alone (after config es) e grows lawful
    (keeps-after (opening config) es c.what_is_asked_fits.ensures c.settles_once.ensures journal.lawful (keeps-opening config is))
