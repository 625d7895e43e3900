use Rattle.floor_machine.specs.Conference.{opening}
use Rattle.floor_machine.specs.Journal.{after}
use Rattle.floor_machine.proofs.Grows.{grown-opening}
use Rattle.floor_machine.proofs.Reachable.{grown-after, keeps-after, keeps-opening, reachable}
use Rattle.floor_machine.proofs.laws.journals_keep.Goals as goal

pub returns : goal.returns
returns c = λ config es is journal.
    reachable config (after config es) c.positions_fit.ensures (grown-after config (opening config) es (grown-opening config))
    (keeps-after (opening config) es c.what_is_asked_fits.ensures c.settles_once.ensures journal.lawful (keeps-opening config is))
